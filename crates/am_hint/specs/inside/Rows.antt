-- Rows of true literals, with a list that says for each code whether its literal is true.
use Rattle.std.specs.Prelude.{ℕ, Bool, List, false, slice_index_or}

-- literals that are true, over the variables below a number, in the order in which they became true
pub record TrueRow : Type 0 where
  pub vars : ℕ
  pub literals : List ℕ

-- the literal is true; those past the end aren't
abbrev pub truth_at : List Bool → ℕ → Bool
truth_at truths l = slice_index_or truths l false
