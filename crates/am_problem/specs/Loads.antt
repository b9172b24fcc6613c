-- How many gates the formulas of a problem have, at most.
use Rattle.std.specs.Prelude.{ℕ, ◌+◌, ◌-◌, ◌*◌, None, Some}
use Rattle.std.specs.declared.option.Option.{Option}
use Rattle.am_bv.specs.Terms.{weight}
use Rattle.am_bv.specs.declared.term.Term.{Term}
use Rattle.am_tree.specs.Weights.{block_weight}
use Rattle.am_problem.specs.Kinds.{valid_term_of, member_term_of}
use Rattle.am_problem.specs.Problem.{Problem}

-- a term, and the test whether its value isn't 0
abbrev pub tested_term_weight : ℕ → Term → ℕ
tested_term_weight w t = weight w t + w

-- an assumption and its test, where there is one
abbrev pub assumption_weight : ℕ → Option Term → ℕ
assumption_weight w None = 0
assumption_weight w (Some t) = tested_term_weight w t

-- A bound on the gates of each formula of the problem: for each turn and two more, a block, four tests of membership
-- and two of validity; and the operation and its assumption.
abbrev pub load_of : Problem → ℕ
load_of p =
    (p.turns + 2) * (block_weight p.rules p.width (p.depth - 1) p.starts
    + 4 * tested_term_weight p.width (member_term_of p.kind p.width)
    + 2 * tested_term_weight p.width (valid_term_of p.kind p.width))
    + weight p.width p.operation + assumption_weight p.width p.assume
