-- Every tuple of words is that of its number.
use Rattle.std.proofs.Common.{◌≡◌, ℕ, zero, suc, ◌+◌, ◌-◌, ◌*◌, ◌/◌, ◌%◌, ◌^◌, ◌<◌, ◌≤◌, List, [], ◌∷◌, ◌++◌, length}
use Rattle.std.proofs.Common.{drop, get_or, refl, sym, ap, ◌∙◌, subst, append_assoc, drop-cons, arith}
use Rattle.std.proofs.Math.Nat.{mod-lt, mul-le-mul_left, mul_right_comm, pow-le-pow_right}
use Rattle.std.proofs.Math.Pow.{pow_pos}
use Rattle.std.proofs.lemmas.Nat.{mod-mul-add, div-mul-add, pow-add, row_fits}
use Rattle.std.proofs.lemmas.List.{get_or-drop, length-drop}
use Rattle.am_bv.specs.Words.{AreWords}
use Rattle.am_domain.specs.Tuple.{IsTuple}
use Rattle.am_all.specs.inside.Numbers.{words_at, tuple_number}

-- the next word of a tuple
pub words_at-next : (w count k n : ℕ) (words : List ℕ) → k < count →
    (words ++ n % 2 ^ w ∷ []) ++ words_at w (count - (k + 1)) (n / 2 ^ w) ≡ words ++ words_at w (count - k) n
words_at-next w count k n words h =
    let one_less : count - k ≡ suc (count - (k + 1)) = omega arith in
    append_assoc words (n % 2 ^ w ∷ []) _ ∙ ap (λ m. words ++ words_at w m n) (sym one_less)

-- a number gives a tuple
pub words_at-IsTuple : (w count n : ℕ) → IsTuple w count (words_at w count n)
words_at-IsTuple w zero n = record { counted = refl; words = λ i. pow_pos w }
words_at-IsTuple w (suc count) n =
    let rest = words_at-IsTuple w count (n / 2 ^ w) in
    record {
      counted = ap suc rest.counted;
      words =
          λ i. elim i as (λ j. get_or (words_at w (suc count) n) j 0 < 2 ^ w)
          [ zero ↦ mod-lt n (pow_pos w) | suc j ↦ rest.words j ];
    }

-- a tuple has the words of its number
pub words_at-number_of : (w : ℕ) (words : List ℕ) → AreWords w words →
    words_at w (length words) (tuple_number w words) ≡ words
words_at-number_of w [] h = refl
words_at-number_of w (c ∷ words) h =
    let below : c < 2 ^ w = h 0 in
    let m = tuple_number w words in
    ap (λ k. k ∷ words_at w (length words) ((m * 2 ^ w + c) / 2 ^ w)) (mod-mul-add m (2 ^ w) c below)
    ∙ ap (λ k. c ∷ words_at w (length words) k) (div-mul-add m (2 ^ w) c below)
    ∙ ap (λ cs. c ∷ cs) (words_at-number_of w words (λ i. h (suc i)))

-- the number of a tuple is below that of all tuples
pub number_of-below : (w : ℕ) (words : List ℕ) → AreWords w words → tuple_number w words < 2 ^ (w * length words)
number_of-below w [] h = pow_pos (w * 0)
number_of-below w (c ∷ words) h =
    let below : c < 2 ^ w = h 0 in
    let rest = number_of-below w words (λ i. h (suc i)) in
    let more = row_fits (tuple_number w words) (2 ^ w) (2 ^ (w * length words)) (2 ^ w) rest (omega arith) in
    let grown : 2 ^ (w * suc (length words)) ≡ 2 ^ (w * length words) * 2 ^ w =
    ap (λ k. 2 ^ k) (omega arith) ∙ pow-add 2 (w * length words) w in
    omega (arith, more, grown, below)

drop-words : (w j : ℕ) (words : List ℕ) → AreWords w words → AreWords w (drop j words)
drop-words w j words h i = subst (λ c. c < 2 ^ w) (sym (get_or-drop j words i 0)) (h (j + i))

-- the number of a short tuple is small
pub number_of-few : (w : ℕ) (words : List ℕ) → AreWords w words → w * length words ≤ 16 → tuple_number w words < 65536
number_of-few w words h few =
    let below = number_of-below w words h in
    let power : 2 ^ (w * length words) ≤ 2 ^ 16 = pow-le-pow_right (omega arith) few in
    omega (arith, below, power)

-- and so is that of its last words
pub number_of-drop-few : (w j : ℕ) (words : List ℕ) → AreWords w words → w * length words ≤ 16 →
    tuple_number w (drop j words) < 65536
number_of-drop-few w j words h few =
    let shorter : length (drop j words) ≤ length words = simp length-drop (omega arith) in
    let less = mul-le-mul_left w shorter in
    number_of-few w (drop j words) (drop-words w j words h) (omega (arith, less, few))

-- the number from one word before
pub number_of-drop : (w j : ℕ) (words : List ℕ) → 0 < j → j ≤ length words →
    tuple_number w (drop (j - 1) words) ≡ tuple_number w (drop j words) * 2 ^ w + get_or words (j - 1) 0
number_of-drop w zero words some l = absurd (omega (arith, some))
number_of-drop w (suc j) words some l =
    let less : suc j - 1 ≡ j = omega arith in
    rw (less, drop-cons words j 0 l) refl

-- a product of three that is small is small without a factor that isn't 0
pub one-less : (w n k : ℕ) → 1 ≤ n → w * n * k ≤ 16 → w * k ≤ 16
one-less w n k some few =
    let more = mul-le-mul_left (w * k) some in
    let same : w * k * n ≡ w * n * k = mul_right_comm w k n in
    omega (arith, more, same, few)
