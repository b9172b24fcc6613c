-- Intervals of words. A word of w bits is read as a whole number, unsigned or signed, and an interval is the list of
-- its least and its greatest word in the order of these numbers.
use Rattle.std.specs.Prelude.{ℕ, ◌-◌, ◌^◌, if◌then◌else◌, List, [], ◌∷◌, slice_index, Some, None, ℤ, pos, ◌≤ℤ◌, int_lt}
use Rattle.std.specs.Prelude.{int_le}
use Rattle.std.specs.Int.{int_gap}
use Rattle.std.specs.declared.option.Option.{Option}
use Rattle.am_domain.specs.Meaning.{Meaning}

-- the whole number that a word of some width is read as; `signed` is another such reading
abbrev pub Reading : Type 0
Reading = ℕ → ℕ → ℤ

-- a word as itself
abbrev pub unsigned : Reading
unsigned w c = pos c

-- the end that the interval begins with
abbrev pub least : List ℕ → ℕ
least a = slice_index a 0

-- the end that the interval ends with
abbrev pub greatest : List ℕ → ℕ
greatest a = slice_index a 1

-- the ends are in order
abbrev pub IsInterval : Reading → ℕ → List ℕ → Type 0
IsInterval number w a = number w (least a) ≤ℤ number w (greatest a)

-- a word between the ends
abbrev pub IsBetween : Reading → ℕ → List ℕ → ℕ → Type 0
IsBetween number w a c = (number w (least a) ≤ℤ number w c) × (number w c ≤ℤ number w (greatest a))

-- the domain of intervals in the order of these numbers
abbrev pub intervals : Reading → Meaning
intervals number = record { fields = 2; Valid = IsInterval number; Member = IsBetween number }

-- the interval of all words in unsigned order
abbrev pub unsigned_top : ℕ → List ℕ
unsigned_top w = 0 ∷ (2 ^ w - 1) ∷ []

-- the interval of all words in signed order, from the least negative number to the greatest positive one
abbrev pub signed_top : ℕ → List ℕ
signed_top w = (2 ^ (w - 1)) ∷ (2 ^ (w - 1) - 1) ∷ []

-- the second word where its number is below the first's, else the first
abbrev pub lesser : Reading → ℕ → ℕ → ℕ → ℕ
lesser number w c d = if int_lt (number w d) (number w c) then d else c

-- the second word where its number is above the first's, else the first
abbrev pub greater : Reading → ℕ → ℕ → ℕ → ℕ
greater number w c d = if int_lt (number w c) (number w d) then d else c

-- from the lesser of the least words to the greater of the greatest words
abbrev pub hull : Reading → ℕ → List ℕ → List ℕ → List ℕ
hull number w a b = lesser number w (least a) (least b) ∷ greater number w (greatest a) (greatest b) ∷ []

-- how many of the 2 ^ w words lie outside an interval
abbrev pub words_outside : Reading → ℕ → List ℕ → ℕ
words_outside number w a = 2 ^ w - 1 - int_gap (number w (least a)) (number w (greatest a))

-- the same tuple where its ends are in order
abbrev pub tidied : Reading → ℕ → List ℕ → Option (List ℕ)
tidied number w raw = if int_le (number w (least raw)) (number w (greatest raw)) then Some raw else None
