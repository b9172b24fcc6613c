-- What the solver answers of a query's formula.
use Rattle.std.specs.Prelude.{ℕ, ◌≡◌, ◌≤◌, length}
use Rattle.am_lit.specs.Truth.{Satisfies, value_at}
use Rattle.am_lit.specs.declared.assignment.Assignment.{Assignment}
use Rattle.am_lit.specs.declared.formula.Formula.{Formula}
use Rattle.am_chain.specs.Replay.{Refutes}
use Rattle.am_solve.specs.Answers.{ChainsAreShort, IsProgress}
use Rattle.am_query.specs.declared.answers.QueryAnswer.{QueryAnswer}
use Rattle.am_query.specs.declared.answers.QueryAnswer.TheVariants.{Found, Refuted, Spent}

-- truth values that satisfy the formula, or chains that refute it, or as many valid chains as the limit, whose clauses
-- are new
abbrev pub IsSolved : Formula → ℕ → QueryAnswer Assignment → Type 0
IsSolved f limit (Found a) = (length a.values ≡ f.vars) × Satisfies (value_at a.values) f.clauses
IsSolved f limit (Refuted log) = Refutes f.clauses log × (length log ≤ limit) × ChainsAreShort f.vars log
IsSolved f limit (Spent log) =
    (length log ≡ limit) × IsProgress f.clauses f.vars log × ChainsAreShort f.vars log
