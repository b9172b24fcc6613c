-- Parts of lists.
use Rattle.std.proofs.Common.{ℕ, List, drop, take}
use Rattle.std.specs.Prelude.{Contains}
use Rattle.std.proofs.lemmas.List.{take-append-drop}
use Rattle.std.proofs.lemmas.List.Elements.{Contains-append_left, Contains-append_right}

-- what stands in the front of a list stands in it
pub Contains-take : {X : Type 0} (n : ℕ) (xs : List X) (x : X) → Contains (take n xs) x → Contains xs x
Contains-take n xs x h = rw (take-append-drop n xs) at (Contains-append_left (take n xs) (drop n xs) x h)

-- what stands in the rest of a list stands in it
pub Contains-drop : {X : Type 0} (n : ℕ) (xs : List X) (x : X) → Contains (drop n xs) x → Contains xs x
Contains-drop n xs x h = rw (take-append-drop n xs) at (Contains-append_right (take n xs) (drop n xs) x h)
