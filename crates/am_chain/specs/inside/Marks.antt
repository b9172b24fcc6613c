-- Sets of literals, as a list that says for each code whether its literal is in the set.
use Rattle.std.specs.Prelude.{ℕ, ◌≡◌, ◌==◌, Bool, false, List, Contains, ◌↔◌, IsTrue, Ok, slice_index_or}
use Rattle.std.specs.List.{list_any}
use Rattle.std.specs.List.Sorted.{IsStrictlyIncreasing}
use Rattle.am_chain.specs.Chains.{Outcome}

-- the literal is marked; those past the end aren't
abbrev pub mark_at : List Bool → ℕ → Bool
mark_at marks l = slice_index_or marks l false

-- the literal is in the list
abbrev pub is_in : List ℕ → ℕ → Bool
is_in literals l = list_any (λ m. m == l) literals

-- the marked literals are those of a clause in order
pub record AreMarksOf (c : List ℕ) (marks : List Bool) : Type 0 where
  pub rising : IsStrictlyIncreasing c
  pub members : (l : ℕ) → Contains c l ↔ IsTrue (mark_at marks l)

-- an outcome is a clause, and the marked literals are its
abbrev pub AreMarksOfOk : Outcome → List Bool → Type 0
AreMarksOfOk outcome marks = (c : List ℕ) × (outcome ≡ Ok c) × AreMarksOf c marks
