-- Words one after another, each the next one modulo 2 ^ w.
use Rattle.std.specs.Prelude.{ℕ, zero, suc, ◌+◌, ◌-◌, ◌%◌, ◌^◌, List, [], ◌∷◌, slice_index}

-- how many steps upwards by 1, modulo 2 ^ w, lead from one word to another
abbrev pub steps : ℕ → ℕ → ℕ → ℕ
steps w c d = (d + (2 ^ w - c)) % 2 ^ w

-- so many words, from the first upwards by 1, modulo 2 ^ w
abbrev pub upwards : ℕ → ℕ → ℕ → List ℕ
upwards w zero c = []
upwards w (suc n) c = c ∷ upwards w n ((c + 1) % 2 ^ w)

-- the walk of a tuple: the words from field 0 upwards to field 1
abbrev pub walk : ℕ → List ℕ → List ℕ
walk w a = let first = slice_index a 0 in upwards w (suc (steps w first (slice_index a 1))) first

-- the tuple whose walk is one word
abbrev pub point : ℕ → List ℕ
point c = c ∷ c ∷ []
