-- A list of lists as one list, cut at the ends of its rows.
use Rattle.std.specs.Prelude.{ℕ, ◌≡◌, ◌≤◌, ◌-◌, List, [], ◌∷◌, take, drop}

-- the rows that begin at a place, by their ends
abbrev pub rows : ℕ → List ℕ → List ℕ → List (List ℕ)
rows from [] all = []
rows from (end ∷ ends) all = take (end - from) (drop from all) ∷ rows end ends all

-- the ends don't fall, and the last one is the whole length
abbrev pub AreRowEnds : ℕ → List ℕ → ℕ → Type 0
AreRowEnds from [] total = from ≡ total
AreRowEnds from (end ∷ ends) total = (from ≤ end) × AreRowEnds end ends total
