-- Tuples of words: those that grow by a word, and those of few words.
use Rattle.std.proofs.Common.{◌≡◌, ℕ, zero, suc, ◌+◌, ◌^◌, ◌<◌, List, [], ◌∷◌, ◌++◌, get_or, length, refl, arith}
use Rattle.std.proofs.lemmas.Nat.{pow_pos}
use Rattle.std.proofs.lemmas.List.{length-append}
use Rattle.am_bv.specs.Words.{AreWords}
use Rattle.am_domain.specs.Tuple.{IsTuple}

-- no words are words
pub AreWords-nil : (w : ℕ) → AreWords w []
AreWords-nil w i = pow_pos w

-- a word before words
pub AreWords-cons : (w c : ℕ) (words : List ℕ) → c < 2 ^ w → AreWords w words → AreWords w (c ∷ words)
AreWords-cons w c words h rest i = elim i as (λ j. get_or (c ∷ words) j 0 < 2 ^ w) [ zero ↦ h | suc j ↦ rest j ]

-- words after words
pub AreWords-append : (w : ℕ) (words more : List ℕ) → AreWords w words → AreWords w more → AreWords w (words ++ more)
AreWords-append w [] more h rest = rest
AreWords-append w (c ∷ words) more h rest =
    AreWords-cons w c (words ++ more) (h 0) (AreWords-append w words more (λ i. h (suc i)) rest)

-- one word is a tuple
pub single-IsTuple : (w c : ℕ) → c < 2 ^ w → IsTuple w 1 (c ∷ [])
single-IsTuple w c h = record { counted = refl; words = AreWords-cons w c [] h (AreWords-nil w) }

-- two words are a tuple
pub pair-IsTuple : (w c d : ℕ) → c < 2 ^ w → d < 2 ^ w → IsTuple w 2 (c ∷ d ∷ [])
pair-IsTuple w c d h k =
    record { counted = refl; words = AreWords-cons w c (d ∷ []) h (AreWords-cons w d [] k (AreWords-nil w)) }

-- a tuple with another one after it
pub IsTuple-append : (w m n : ℕ) (a b : List ℕ) → IsTuple w m a → IsTuple w n b → IsTuple w (m + n) (a ++ b)
IsTuple-append w m n a b first second = record {
  counted = omega (arith, length-append a b, first.counted, second.counted);
  words = AreWords-append w a b first.words second.words;
}

-- what holds of each list of one number holds of a list of length 1
pub by_one : (P : List ℕ → Type 0) → ((x : ℕ) → P (x ∷ [])) → (words : List ℕ) → length words ≡ 1 → P words
by_one P h [] e = cc
by_one P h (x ∷ []) e = h x
by_one P h (x ∷ y ∷ rest) e = absurd (omega arith)

-- what holds of each list of two numbers holds of a list of length 2
pub by_two : (P : List ℕ → Type 0) → ((x y : ℕ) → P (x ∷ y ∷ [])) → (words : List ℕ) → length words ≡ 2 → P words
by_two P h [] e = cc
by_two P h (x ∷ rest) e = by_one (λ rest. P (x ∷ rest)) (h x) rest (omega arith)

-- what holds of each list of three numbers holds of a list of length 3
pub by_three : (P : List ℕ → Type 0) → ((x y z : ℕ) → P (x ∷ y ∷ z ∷ [])) → (words : List ℕ) → length words ≡ 3
    → P words
by_three P h [] e = cc
by_three P h (x ∷ rest) e = by_two (λ rest. P (x ∷ rest)) (h x) rest (omega arith)
