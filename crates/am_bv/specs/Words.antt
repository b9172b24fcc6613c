-- Words of w bits as whole numbers from 0 to 2 ^ w - 1.
use Rattle.std.specs.Prelude.{ℕ, ◌-◌, ◌^◌, ◌<◌, ◌≤◌, Bool, true, false, if◌then◌else◌, List, slice_index, nat_lt, ℤ}
use Rattle.std.specs.Prelude.{pos, ◌-ℤ◌}

-- the widths that words may have
abbrev pub IsWidth : ℕ → Type 0
IsWidth w = (2 ≤ w) × (w ≤ 8)

-- that each number of a list is a word
abbrev pub AreWords : ℕ → List ℕ → Type 0
AreWords w cs = (i : ℕ) → slice_index cs i < 2 ^ w

-- the number that a word stands for in two's complement
abbrev pub signed : ℕ → ℕ → ℤ
signed w c = if nat_lt c (2 ^ (w - 1)) then pos c else pos c -ℤ pos (2 ^ w)

-- the complement of each of the w bits
abbrev pub complement : ℕ → ℕ → ℕ
complement w c = 2 ^ w - 1 - c

-- the word that a comparison answers
abbrev pub one_if : Bool → ℕ
one_if true = 1
one_if false = 0
