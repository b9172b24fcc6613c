-- Numbers as far as 128 bits hold them.
use Rattle.std.specs.Prelude.{ℕ, ◌<◌, ◌^◌, List, Option, None, length, slice_index_or}
use Rattle.std.specs.Option.{SomeIff}

-- a number, or None exactly where it is 2 ^ 128 or more
abbrev pub IsCount : ℕ → Option ℕ → Type 0
IsCount n o = SomeIff o (n < 2 ^ 128) n

-- a list has the number of each nonterminal
abbrev pub AreCounts : (ℕ → ℕ) → List (Option ℕ) → Type 0
AreCounts f counts = (n : ℕ) → n < length counts → IsCount (f n) (slice_index_or counts n None)
