-- Words of inputs, which may read any words.
use Rattle.std.proofs.Common.{◌≡◌, ℕ, zero, suc, ◌*◌, ◌/◌, ◌%◌, ◌^◌, ◌<◌, Bool, true, false, not, cond, eqb, ltb, List}
use Rattle.std.proofs.Common.{[], ◌∷◌, map, length, refl, ◌∙◌, ap, subst, arith}
use Rattle.std.proofs.Math.Nat.{pow-succ'}
use Rattle.std.proofs.lemmas.Bool.Decides.{nat_tests}
use Rattle.std.proofs.lemmas.List.Elements.{All-nil, All-cons}
use Rattle.am_lit.specs.Truth.{literal_value}
use Rattle.am_gate.specs.Circuit.{Event.Input, IsLiteral}
use Rattle.am_gate.specs.Value.{Meets}
use Rattle.am_gate.specs.Build.{Place, past, ask, Means}
use Rattle.am_gate.specs.Reaches.{Reaches}
use Rattle.am_gate.proofs.Laws.{literal_value-even, never-input, Means-answer, Means-bind, Reaches-answer, Reaches-bind}
use Rattle.am_bv.specs.Words.{AreWords}
use Rattle.am_blast.specs.Words.{bit, reads, IsWord}
use Rattle.am_blast.specs.Circuits.{in_turn}
use Rattle.am_blast.proofs.Laws.{IsWord-later}
use Rattle.am_query.specs.Formulas.{input_word, input_words}
use Rattle.am_query.proofs.Builds.{Builds, Builds-answer, Builds-bind, Builds-input, literal-same}
use Rattle.am_query.specs.inside.Words.{AreWordsIn}
use Rattle.am_query.proofs.Tuples.{AreLong, AreWordsIn-cons, AreWordsIn-nil, reads-same}

-- ---- one input

one_input : (v : ℕ → Bool) → Means v (ask Input) (λ l. Unit {0})
one_input v = record { holds = λ p t h. tt }

-- truth values of the variables below n, and one for the others
abbrev from_on : ℕ → Bool → (ℕ → Bool) → ℕ → Bool
from_on n b v x = cond (ltb x n) (v x) b

from_on-below : (n : ℕ) (b : Bool) (v : ℕ → Bool) (x : ℕ) → x < n → from_on n b v x ≡ v x
from_on-below n b v x h = grind (arith, nat_tests)

from_on-at : (n : ℕ) (b : Bool) (v : ℕ → Bool) → from_on n b v n ≡ b
from_on-at n b v = grind (arith, nat_tests)

-- an input may have either value
pub Reaches-input : (b : Bool) (v : ℕ → Bool) (p : Place) →
    Reaches v (ask Input) p (λ u q l. IsLiteral q.next l × (literal_value u l ≡ b))
unfolding ask past Meets
Reaches-input b v p = record {
  scoped = rw (never-input p.folding) (All-nil (IsLiteral p.next), tt);
  values = from_on p.next b v;
  below = from_on-below p.next b v;
  meets = rw (never-input p.folding) (tt, tt);
  given = rw (never-input p.folding)
      (omega arith, literal_value-even (from_on p.next b v) p.next ∙ from_on-at p.next b v);
}

-- ---- a word

bit-odd : (n : ℕ) → bit (not (eqb (n % 2) 0)) ≡ n % 2
bit-odd n = go (eqb (n % 2) 0) refl
  where
    go : (b : Bool) → eqb (n % 2) 0 ≡ b → bit (not b) ≡ n % 2
    go true e = grind (arith, nat_tests)
    go false e = grind (arith, nat_tests)

IsWord-nil : (n : ℕ) → IsWord 0 n []
IsWord-nil n = record { bits = refl; inside = All-nil (IsLiteral n) }

IsWord-cons : (w n l : ℕ) (ls : List ℕ) → IsLiteral n l → IsWord w n ls → IsWord (suc w) n (l ∷ ls)
IsWord-cons w n l ls h k = record { bits = ap suc k.bits; inside = All-cons (IsLiteral n) l ls h k.inside }

-- a word of inputs has as many literals as it is asked for
pub Means-input_word : (v : ℕ → Bool) (w : ℕ) → Means v (input_word w) (λ word. length word ≡ w)
unfolding input_word in_turn
Means-input_word v zero = Means-answer _ refl
Means-input_word v (suc w) =
    Means-bind _ (one_input v) (λ l t. Means-bind _ (Means-input_word v w) (λ ls h. Means-answer _ (ap suc h)))

-- a word of inputs is so many inputs, and nothing else
pub Builds-input_word : (w : ℕ) (p : Place) → Builds (input_word w) 0 w (IsWord w) p
unfolding input_word in_turn
Builds-input_word zero p = Builds-answer _ (IsWord-nil p.next)
Builds-input_word (suc w) p =
    Builds-bind _ 0 w (Builds-input p) refl (omega arith)
    (λ l q m one. Builds-bind _ 0 0 (Builds-input_word w q) refl (omega arith)
    (λ ls r n rest. Builds-answer _ (IsWord-cons w r.next l ls (omega (arith, one, n)) rest)))

-- it may read any number of so many bits
pub Reaches-input_word : (w n : ℕ) → n < 2 ^ w → (v : ℕ → Bool) (p : Place) →
    Reaches v (input_word w) p (λ u q word. IsWord w q.next word × (reads u word ≡ n))
unfolding input_word in_turn
Reaches-input_word zero n h v p = Reaches-answer _ (IsWord-nil p.next, omega (arith, h))
Reaches-input_word (suc w) n h v p =
    let half : n / 2 < 2 ^ w = omega (arith, rw pow-succ' at h) in
    Reaches-bind _ (Reaches-input (not (eqb (n % 2) 0)) v p)
    (λ u l q m same one. Reaches-bind _ (Reaches-input_word w (n / 2) half u q)
    (λ z ls r k more rest. Reaches-answer _ (
      IsWord-cons w r.next l ls (omega (arith, one.0, k)) rest.0,
      rw (literal-same z u q.next l more one.0, one.1, bit-odd n, rest.1) (omega arith),
    )))

-- ---- words

-- so many words of inputs, each as long as it is asked for
pub Means-input_words : (v : ℕ → Bool) (w count : ℕ) → Means v (input_words w count) (AreLong w count)
unfolding input_words in_turn
Means-input_words v w zero = Means-answer _ (record { many = refl; bits = All-nil (λ word. length word ≡ w) })
Means-input_words v w (suc count) =
    Means-bind _ (Means-input_word v w)
    (λ word h. Means-bind _ (Means-input_words v w count)
    (λ words rest. Means-answer _
    (record { many = ap suc rest.many; bits = All-cons (λ word. length word ≡ w) word words h rest.bits })))

-- words of inputs are so many inputs each, and nothing else
pub Builds-input_words : (w count : ℕ) (p : Place) → Builds (input_words w count) 0 (count * w) (AreWordsIn w count) p
unfolding input_words in_turn
Builds-input_words w zero p =
    let none : 0 ≡ 0 * w = omega arith in
    subst (λ n. Builds (input_words w 0) 0 n (AreWordsIn w 0) p) none (Builds-answer _ (AreWordsIn-nil w p.next))
Builds-input_words w (suc count) p =
    Builds-bind _ 0 (count * w) (Builds-input_word w p) refl (omega arith)
    (λ word q m one. Builds-bind _ 0 0 (Builds-input_words w count q) refl (omega arith)
    (λ words r n rest. Builds-answer _
    (AreWordsIn-cons w count r.next word words (IsWord-later w q.next r.next word n one) rest)))

-- they may read any words
pub Reaches-input_words : (w count : ℕ) (cs : List ℕ) → length cs ≡ count → AreWords w cs → (v : ℕ → Bool) (p : Place) →
    Reaches v (input_words w count) p (λ u q words. AreWordsIn w count q.next words × (map (reads u) words ≡ cs))
unfolding input_words in_turn
Reaches-input_words w zero [] e h v p = Reaches-answer _ (AreWordsIn-nil w p.next, refl)
Reaches-input_words w zero (c ∷ cs) e h v p = absurd (omega (arith, e))
Reaches-input_words w (suc count) [] e h v p = absurd (omega (arith, e))
Reaches-input_words w (suc count) (c ∷ cs) e h v p =
    Reaches-bind _ (Reaches-input_word w c (h 0) v p)
    (λ u word q m same one. Reaches-bind _ (Reaches-input_words w count cs (omega (arith, e)) (λ i. h (suc i)) u q)
    (λ z words r k more rest. Reaches-answer _ (
      AreWordsIn-cons w count r.next word words (IsWord-later w q.next r.next word k one.0) rest.0,
      rw (reads-same z u q.next more word one.0.inside, one.1, rest.1) refl,
    )))
