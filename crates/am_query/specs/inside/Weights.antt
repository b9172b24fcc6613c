-- How many gates the parts of a query have, at most.
use Rattle.std.specs.Prelude.{ℕ, ◌+◌}
use Rattle.am_problem.specs.Kinds.{member_term_of, valid_term_of}
use Rattle.am_problem.specs.Loads.{tested_term_weight}
use Rattle.am_problem.specs.Problem.{Problem}
use Rattle.am_slot.specs.Template.{weight_of_block}
use Rattle.am_query.specs.Formulas.{encoding_of}

-- a test of membership
abbrev pub member_weight : Problem → ℕ
member_weight p = tested_term_weight p.width (member_term_of p.kind p.width)

-- a test of validity
abbrev pub valid_weight : Problem → ℕ
valid_weight p = tested_term_weight p.width (valid_term_of p.kind p.width)

-- an example: a block, and a test of membership
abbrev pub example_weight : Problem → ℕ
example_weight p = weight_of_block (encoding_of p) + member_weight p
