-- Tuples of words by their numbers.
use Rattle.std.specs.Prelude.{ℕ, zero, suc, ◌+◌, ◌*◌, ◌/◌, ◌%◌, ◌^◌, List, [], ◌∷◌}

-- the tuple of so many words with a number: its digits in base 2^w, the first word being the least
abbrev pub words_at : ℕ → ℕ → ℕ → List ℕ
words_at w zero n = []
words_at w (suc count) n = (n % 2 ^ w) ∷ words_at w count (n / 2 ^ w)

-- the number of a tuple of words
abbrev pub tuple_number : ℕ → List ℕ → ℕ
tuple_number w [] = 0
tuple_number w (c ∷ words) = tuple_number w words * 2 ^ w + c
