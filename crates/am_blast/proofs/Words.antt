-- Words, what they read, and where their literals stand.
use Rattle.std.proofs.Common.{◌≡◌, ℕ, zero, suc, ◌+◌, ◌-◌, ◌*◌, ◌^◌, ◌<◌, ◌≤◌, Bool, true, false, not, List, [], ◌∷◌}
use Rattle.std.proofs.Common.{◌++◌, take, drop, length, get_or, drop-cons, add-one, ◌/◌, ◌%◌, length-take, refl, sym}
use Rattle.std.proofs.Common.{◌∙◌, ap, arith}
use Rattle.std.specs.Prelude.{IsTrue, All}
use Rattle.std.proofs.Math.Nat.{pow-succ', mod-eq_of_lt}
use Rattle.std.proofs.lemmas.Nat.{div-mul-add, mod-mul-add}
use Rattle.std.proofs.lemmas.List.{length-map, length-replicate, take-append-drop}
use Rattle.std.proofs.lemmas.List.Elements.{All-cons, All-head, All-tail, All-map, All-append, All-replicate, All-take}
use Rattle.std.proofs.lemmas.List.Elements.{All-drop}
use Rattle.am_lit.proofs.Laws.{literal_value-opposite_of}
use Rattle.am_gate.specs.Circuit.{truth, falsity, IsLiteral}
use Rattle.am_gate.proofs.Laws.{IsLiteral-opposite, literal_value-even, literal_value-odd}
use Rattle.am_lit.specs.Literal.{opposite_of}
use Rattle.am_lit.specs.Truth.{literal_value}
use Rattle.am_bv.specs.Words.{complement}
use Rattle.am_blast.specs.Words.{bit, reads, IsWord, AreWordPair, opposites, zeros, flag, sign_turned}

pub bit-not : (b : Bool) → bit (not b) + bit b ≡ 1
bit-not true = refl
bit-not false = refl

-- a bit is at most one
pub bit-le : (b : Bool) → bit b ≤ 1
bit-le true = omega arith
bit-le false = omega arith

-- a word of n literals reads below 2 ^ n
pub reads-lt : (v : ℕ → Bool) (xs : List ℕ) → reads v xs < 2 ^ length xs
reads-lt v [] = omega arith
reads-lt v (x ∷ xs) = rw pow-succ' (omega (arith, bit-le (literal_value v x), reads-lt v xs))

-- a word and its opposites read all ones together
pub reads-opposites : (v : ℕ → Bool) (xs : List ℕ) → reads v (opposites xs) + reads v xs + 1 ≡ 2 ^ length xs
reads-opposites v [] = refl
reads-opposites v (x ∷ xs) =
    rw (pow-succ', literal_value-opposite_of v x) (omega (arith, bit-not (literal_value v x), reads-opposites v xs))

-- the opposites of a word read as its complement
pub complement-reads : (v : ℕ → Bool) (xs : List ℕ) → reads v (opposites xs) ≡ complement (length xs) (reads v xs)
complement-reads v xs = omega (arith, reads-opposites v xs)

-- the low bits, and then the high ones
pub reads-append : (v : ℕ → Bool) (xs ys : List ℕ) → reads v (xs ++ ys) ≡ reads v xs + 2 ^ length xs * reads v ys
reads-append v [] ys = omega arith
reads-append v (x ∷ xs) ys = rw (pow-succ', reads-append v xs ys) (omega arith)

-- the number of a word's low bits, and of its others
pub reads-take : (v : ℕ → Bool) (n : ℕ) (xs : List ℕ) → n ≤ length xs → reads v (take n xs) ≡ reads v xs % 2 ^ n
reads-take v n xs l =
    let long : length (take n xs) ≡ n = simp length-take (omega arith) in
    let small : reads v (take n xs) < 2 ^ n = rw long at (reads-lt v (take n xs)) in
    let parts : reads v xs ≡ reads v (drop n xs) * 2 ^ n + reads v (take n xs) =
    ap (reads v) (sym (take-append-drop n xs)) ∙ reads-append v (take n xs) (drop n xs) ∙ rw long (omega arith) in
    sym (ap (λ k. k % 2 ^ n) parts ∙ mod-mul-add (reads v (drop n xs)) (2 ^ n) (reads v (take n xs)) small)

-- a word without its lowest bits reads as a quotient
pub reads-drop : (v : ℕ → Bool) (n : ℕ) (xs : List ℕ) → n ≤ length xs → reads v (drop n xs) ≡ reads v xs / 2 ^ n
reads-drop v n xs l =
    let long : length (take n xs) ≡ n = simp length-take (omega arith) in
    let small : reads v (take n xs) < 2 ^ n = rw long at (reads-lt v (take n xs)) in
    let parts : reads v xs ≡ reads v (drop n xs) * 2 ^ n + reads v (take n xs) =
    ap (reads v) (sym (take-append-drop n xs)) ∙ reads-append v (take n xs) (drop n xs) ∙ rw long (omega arith) in
    sym (ap (λ k. k / 2 ^ n) parts ∙ div-mul-add (reads v (drop n xs)) (2 ^ n) (reads v (take n xs)) small)

-- they read as the word, where it reads a number of so many bits
pub reads-take_small : (v : ℕ → Bool) (n : ℕ) (xs : List ℕ) → n ≤ length xs → reads v xs < 2 ^ n
    → reads v (take n xs) ≡ reads v xs
reads-take_small v n xs l small = reads-take v n xs l ∙ mod-eq_of_lt small

-- the literal that is true
pub value-truth : (v : ℕ → Bool) → IsTrue (v 0) → literal_value v truth ≡ true
value-truth v t = literal_value-even v 0 ∙ t

-- the literal that is false
pub value-falsity : (v : ℕ → Bool) → IsTrue (v 0) → literal_value v falsity ≡ false
value-falsity v t = literal_value-odd v 0 ∙ ap not t

-- a word of literals that are false
pub reads-zeros : (v : ℕ → Bool) (n : ℕ) → IsTrue (v 0) → reads v (zeros n) ≡ 0
reads-zeros v zero t = refl
reads-zeros v (suc n) t = rw (reads-zeros v n t, value-falsity v t) refl

-- where literals stand

-- opposites of literals are literals
pub All-opposites : (n : ℕ) (xs : List ℕ) → All (IsLiteral n) xs → All (IsLiteral n) (opposites xs)
All-opposites n xs h = All-map (IsLiteral n) opposite_of xs (λ k d l. IsLiteral-opposite n _ (h k d l))

-- literals that are false are literals
pub All-zeros : (n k : ℕ) → 0 < n → All (IsLiteral n) (zeros k)
All-zeros n k h = All-replicate (IsLiteral n) k falsity h

-- literals stay literals as variables are made
pub All-later : (n m : ℕ) (xs : List ℕ) → n ≤ m → All (IsLiteral n) xs → All (IsLiteral m) xs
All-later n m xs l h = λ i d lt. omega (arith, l, h i d lt)

-- the first literal is within the bound
pub first_inside : (n x : ℕ) (xs : List ℕ) → All (IsLiteral n) (x ∷ xs) → IsLiteral n x
first_inside n x xs h = All-head (IsLiteral n) x xs h

-- the other literals are, also within a later bound
pub others_inside : (n m x : ℕ) (xs : List ℕ) → n ≤ m → All (IsLiteral n) (x ∷ xs) → All (IsLiteral m) xs
others_inside n m x xs l h = All-later n m xs l (All-tail (IsLiteral n) x xs h)

-- a word stays a word
pub IsWord-later : (w n m : ℕ) (xs : List ℕ) → n ≤ m → IsWord w n xs → IsWord w m xs
IsWord-later w n m xs l h = record { bits = h.bits; inside = All-later n m xs l h.inside }

-- the opposites of a word are a word
pub IsWord-opposites : (w n : ℕ) (xs : List ℕ) → IsWord w n xs → IsWord w n (opposites xs)
IsWord-opposites w n xs h = record { bits = length-map xs opposite_of ∙ h.bits; inside = All-opposites n xs h.inside }

-- two words of as many literals

-- words of one length
pub AreWordPair-alike : (w n : ℕ) (xs ys : List ℕ) → IsWord w n xs → IsWord w n ys → AreWordPair n xs ys
AreWordPair-alike w n xs ys hx hy = record { lengths = hy.bits ∙ sym hx.bits; first = hx.inside; second = hy.inside }

-- two words are two words in either order
pub AreWordPair-swapped : (n : ℕ) (xs ys : List ℕ) → AreWordPair n xs ys → AreWordPair n ys xs
AreWordPair-swapped n xs ys h = record { lengths = sym h.lengths; first = h.second; second = h.first }

-- two words stay two words within a later bound
pub AreWordPair-later : (n m : ℕ) (xs ys : List ℕ) → n ≤ m → AreWordPair n xs ys → AreWordPair m xs ys
AreWordPair-later n m xs ys l h =
    record { lengths = h.lengths; first = All-later n m xs l h.first; second = All-later n m ys l h.second }

-- a word and the opposites of another are two words
pub AreWordPair-opposites : (n : ℕ) (xs ys : List ℕ) → AreWordPair n xs ys → AreWordPair n xs (opposites ys)
AreWordPair-opposites n xs ys h =
    record { lengths = length-map ys opposite_of ∙ h.lengths; first = h.first; second = All-opposites n ys h.second }

-- a word with its sign turned has literals
pub All-sign_turned : (n : ℕ) (xs : List ℕ) → All (IsLiteral n) xs → All (IsLiteral n) (sign_turned xs)
All-sign_turned n xs h =
    let k = length xs - 1 in
    All-append (IsLiteral n) (take k xs) (opposites (drop k xs)) (All-take (IsLiteral n) k xs h)
    (All-opposites n (drop k xs) (All-drop (IsLiteral n) k xs h))

-- a flag is a word
pub IsWord-flag : (w n l : ℕ) → 1 ≤ w → 0 < n → IsLiteral n l → IsWord w n (flag w l)
IsWord-flag w n l one pos h = record {
  bits = rw length-replicate (omega (arith, one));
  inside = All-cons (IsLiteral n) l (zeros (w - 1)) h (All-zeros n (w - 1) pos);
}

-- zeros are a word
pub IsWord-zeros : (w n : ℕ) → 0 < n → IsWord w n (zeros w)
IsWord-zeros w n h = record { bits = length-replicate w falsity; inside = All-zeros n w h }

-- what is left of a list, from an element on
pub drop-from : {A : Type 0} (i : ℕ) (x : A) (xs : List A) → i < length xs → x ≡ get_or xs i x
    → drop i xs ≡ x ∷ drop (i + 1) xs
drop-from i x xs l e = drop-cons xs i x l ∙ rw (← e, add-one) refl
