-- Rows that are cut into tuples, and put together again.
use Rattle.std.proofs.Common.{◌≡◌, ℕ, zero, suc, ◌+◌, ◌*◌, ◌<◌, ◌≤◌, List, [], ◌∷◌, ◌++◌, length, take, drop, get_or}
use Rattle.std.proofs.Common.{refl, ap, sym, ◌∙◌, inl, inr, arith}
use Rattle.std.specs.List.{All, concat}
use Rattle.std.proofs.Math.Nat.{suc-mul, mul-le-mul_right, zero-mul}
use Rattle.std.proofs.Math.Seq.{take-append_seam, drop-append_seam}
use Rattle.std.proofs.lemmas.Bool.{cases_lt}
use Rattle.std.proofs.lemmas.List.{length-drop, length-take-le, get_or-take, get_or-drop, get_or_past, length-take}
use Rattle.std.proofs.lemmas.List.{take-append-drop, drop-drop}
use Rattle.std.proofs.lemmas.List.Elements.{All-head, All-tail}
use Rattle.std.proofs.lemmas.Nat.{pow_pos}
use Rattle.am_bv.specs.Words.{AreWords}
use Rattle.am_domain.proofs.Laws.{AreWords-nil, IsTuple-append}
use Rattle.am_domain.specs.Tuple.{IsTuple}
use Rattle.am_problem.specs.Examples.{split}

-- so many tuples
pub length-split : (fields count : ℕ) (row : List ℕ) → length (split fields count row) ≡ count
unfolding split
length-split fields zero row = refl
length-split fields (suc count) row = ap suc (length-split fields count (drop fields row))

-- the tuple at a place
pub get_or-split : (fields count : ℕ) (row : List ℕ) (i : ℕ) (d : List ℕ) → i < count →
    get_or (split fields count row) i d ≡ take fields (drop (i * fields) row)
unfolding split
get_or-split fields zero row i d below = absurd (omega arith)
get_or-split fields (suc count) row zero d below = ap (λ n. take fields (drop n row)) (sym (zero-mul fields))
get_or-split fields (suc count) row (suc i) d below =
    let past : fields + i * fields ≡ suc i * fields = omega (arith, suc-mul i fields) in
    get_or-split fields count (drop fields row) i d (omega arith)
    ∙ ap (take fields) (drop-drop (i * fields) fields row ∙ ap (λ n. drop n row) past)

-- the tuples put together are the row
pub concat-split : (fields count : ℕ) (row : List ℕ) → length row ≡ count * fields →
    concat (split fields count row) ≡ row
unfolding split
concat-split fields zero [] e = refl
concat-split fields zero (c ∷ row) e = absurd (omega arith)
concat-split fields (suc count) row e =
    let rest = drop fields row in
    let long : length rest ≡ count * fields = omega (arith, length-drop fields row, suc-mul count fields) in
    ap (λ xs. take fields row ++ xs) (concat-split fields count rest long) ∙ take-append-drop fields row

first-tuple : (fields : ℕ) (a rest : List ℕ) → length a ≡ fields → take fields (a ++ rest) ≡ a
first-tuple fields a rest e = ap (λ n. take n (a ++ rest)) (sym e) ∙ take-append_seam a rest

other-tuples : (fields : ℕ) (a rest : List ℕ) → length a ≡ fields → drop fields (a ++ rest) ≡ rest
other-tuples fields a rest e = ap (λ n. drop n (a ++ rest)) (sym e) ∙ drop-append_seam a rest

-- tuples that are put together and cut again are the same
pub split-concat : (fields count : ℕ) (tuples : List (List ℕ)) → length tuples ≡ count →
    All (λ a. length a ≡ fields) tuples → split fields count (concat tuples) ≡ tuples
unfolding split
split-concat fields zero [] e each = refl
split-concat fields zero (a ∷ tuples) e each = absurd (omega arith)
split-concat fields (suc count) [] e each = absurd (omega arith)
split-concat fields (suc count) (a ∷ tuples) e each =
    let P : List ℕ → Type 0 = λ a. length a ≡ fields in
    let long = All-head P a tuples each in
    let rest = split-concat fields count tuples (omega arith) (All-tail P a tuples each) in
    rw (first-tuple fields a (concat tuples) long, other-tuples fields a (concat tuples) long) (ap (λ xs. a ∷ xs) rest)

-- a part of words is words
AreWords-take : (w n : ℕ) (words : List ℕ) → AreWords w words → AreWords w (take n words)
AreWords-take w n words h i =
    elim (cases_lt i n) [
      | inl less ↦ rw (get_or-take n words i 0 less) (h i)
      | inr past ↦ rw (get_or_past (take n words) i 0 (omega (arith, length-take n words))) (pow_pos w)
    ]

AreWords-drop : (w n : ℕ) (words : List ℕ) → AreWords w words → AreWords w (drop n words)
AreWords-drop w n words h i = rw (get_or-drop n words i 0) (h (n + i))

-- the tuple at a place of a row
pub IsTuple-part : (w fields count : ℕ) (row : List ℕ) (i : ℕ) → IsTuple w (count * fields) row → i < count →
    IsTuple w fields (take fields (drop (i * fields) row))
IsTuple-part w fields count row i tuple below =
    let past : suc i * fields ≤ count * fields = mul-le-mul_right fields (omega arith) in
    let rest = drop (i * fields) row in
    let few : fields ≤ length rest = omega (arith, length-drop (i * fields) row, suc-mul i fields, tuple.counted) in
    record {
      counted = length-take-le fields rest few;
      words = AreWords-take w fields rest (AreWords-drop w (i * fields) row tuple.words);
    }

-- tuples put together are a tuple
pub IsTuple-concat : (w fields count : ℕ) (tuples : List (List ℕ)) → length tuples ≡ count →
    All (IsTuple w fields) tuples → IsTuple w (count * fields) (concat tuples)
IsTuple-concat w fields zero [] e each = record { counted = omega arith; words = AreWords-nil w }
IsTuple-concat w fields zero (a ∷ tuples) e each = absurd (omega arith)
IsTuple-concat w fields (suc count) [] e each = absurd (omega arith)
IsTuple-concat w fields (suc count) (a ∷ tuples) e each =
    let P : List ℕ → Type 0 = IsTuple w fields in
    let rest = IsTuple-concat w fields count tuples (omega arith) (All-tail P a tuples each) in
    let both = IsTuple-append w fields (count * fields) a (concat tuples) (All-head P a tuples each) rest in
    record { counted = omega (arith, both.counted, suc-mul count fields); words = both.words }
