-- What the answers of the solver say of a formula.
use Rattle.std.specs.Prelude.{ℕ, ◌≡◌, ◌≤◌, List, All, length}
use Rattle.am_lit.specs.Clause.{IsNormal}
use Rattle.am_lit.specs.Truth.{Satisfies, value_at}
use Rattle.am_lit.specs.UnitRow.{AllNew}
use Rattle.am_chain.specs.declared.chain.Chain.{Chain}
use Rattle.am_chain.specs.Replay.{DerivesClauses, Refutes}
use Rattle.am_solve.specs.declared.answer.Answer.{Answer}
use Rattle.am_solve.specs.declared.answer.Answer.TheVariants.{Sat, Unsat, Spent}

-- no chain has more steps than the formula has variables
abbrev pub ChainsAreShort : ℕ → List Chain → Type 0
ChainsAreShort vars log = All (λ chain. length chain.steps ≤ vars) log

-- each chain of the log is valid, and its clause is normal, and new over the formula and the clauses
-- of the chains before it
pub record IsProgress (clauses : List (List ℕ)) (vars : ℕ) (log : List Chain) : Type 0 where
  pub learnt : List (List ℕ)
  pub derives : DerivesClauses clauses log learnt
  pub normal : All (IsNormal vars) learnt
  pub new : AllNew clauses learnt

-- what each answer says
abbrev pub IsSolverAnswer : List (List ℕ) → ℕ → ℕ → Answer → Type 0
IsSolverAnswer clauses vars limit (Sat assignment) =
    (length assignment.values ≡ vars) × Satisfies (value_at assignment.values) clauses
IsSolverAnswer clauses vars limit (Unsat log) = Refutes clauses log × (length log ≤ limit) × ChainsAreShort vars log
IsSolverAnswer clauses vars limit (Spent log) =
    (length log ≡ limit) × IsProgress clauses vars log × ChainsAreShort vars log

-- the limit was reached
abbrev pub IsSpentAnswer : Answer → Type 0
IsSpentAnswer (Sat assignment) = ⊥
IsSpentAnswer (Unsat log) = ⊥
IsSpentAnswer (Spent log) = Unit {0}
