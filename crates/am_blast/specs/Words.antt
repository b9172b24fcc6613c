-- Words of literals, least bit first, and the numbers that they read.
use Rattle.std.specs.Prelude.{ℕ, zero, suc, ◌≡◌, ◌+◌, ◌-◌, ◌*◌, ◌/◌, ◌%◌, Bool, if◌then◌else◌, ◌==◌, List, [], ◌∷◌}
use Rattle.std.specs.Prelude.{◌++◌, All, map, length, take, drop, replicate}
use Rattle.am_lit.specs.Literal.{opposite_of}
use Rattle.am_lit.specs.Truth.{literal_value}
use Rattle.am_gate.specs.Circuit.{truth, falsity, IsLiteral}

-- the number that a bit stands for
abbrev pub bit : Bool → ℕ
bit b = if b then 1 else 0

-- the number that a word reads where v gives the variables their truth values
abbrev pub reads : (ℕ → Bool) → List ℕ → ℕ
reads v [] = 0
reads v (l ∷ ls) = bit (literal_value v l) + 2 * reads v ls

-- a word of w literals that reads n
pub record ReadsAs (v : ℕ → Bool) (w n : ℕ) (word : List ℕ) : Type 0 where
  pub bits : length word ≡ w
  pub value : reads v word ≡ n

-- a word of w literals of variables below a number
pub record IsWord (w vars : ℕ) (word : List ℕ) : Type 0 where
  pub bits : length word ≡ w
  pub inside : All (IsLiteral vars) word

-- two words of as many literals, of variables below a number
pub record AreWordPair (vars : ℕ) (a b : List ℕ) : Type 0 where
  pub lengths : length b ≡ length a
  pub first : All (IsLiteral vars) a
  pub second : All (IsLiteral vars) b

-- the opposite of each literal
abbrev pub opposites : List ℕ → List ℕ
opposites word = map opposite_of word

-- n literals that are false
abbrev pub zeros : ℕ → List ℕ
zeros n = replicate n falsity

-- the w low bits of a number, as literals that are true or false
abbrev pub constant : ℕ → ℕ → List ℕ
constant zero c = []
constant (suc w) c = (if c % 2 == 0 then falsity else truth) ∷ constant w (c / 2)

-- the word whose bit 0 is a literal and whose other bits are false
abbrev pub flag : ℕ → ℕ → List ℕ
flag w l = l ∷ zeros (w - 1)

-- the word with its top literal replaced by its opposite
abbrev pub sign_turned : List ℕ → List ℕ
sign_turned word = take (length word - 1) word ++ opposites (drop (length word - 1) word)
