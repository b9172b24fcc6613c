-- Sets of words as the bits of numbers.
use Rattle.std.specs.Prelude.{◌≡◌, ℕ, ◌/◌, ◌%◌, slice_index}
use Rattle.std.specs.Int.{bit_at}
use Rattle.am_all.specs.declared.word_set.WordSet.{WordSet}

-- the word is in the set
abbrev pub Has : WordSet → ℕ → Type 0
Has set c = bit_at (slice_index set.parts (c / 64)) (c % 64) ≡ 1
