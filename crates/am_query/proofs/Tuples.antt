-- Tuples of words of literals, what they read, and tuples of constants.
use Rattle.std.proofs.Common.{◌≡◌, ℕ, zero, suc, ◌+◌, ◌*◌, ◌<◌, ◌≤◌, Bool, List, [], ◌∷◌, ◌++◌, All, map, length, take}
use Rattle.std.proofs.Common.{drop, length-append, refl, ◌∙◌, ap, arith}
use Rattle.std.specs.Prelude.{IsTrue}
use Rattle.std.proofs.lemmas.List.{length-map, length-drop, length-take-le}
use Rattle.std.proofs.lemmas.List.Elements.{All-nil, All-cons, All-head, All-tail, All-append, All-take, All-drop}
use Rattle.am_gate.specs.Circuit.{IsLiteral}
use Rattle.am_bv.specs.Words.{AreWords}
use Rattle.am_blast.specs.Words.{constant, reads, IsWord}
use Rattle.am_blast.proofs.Laws.{IsWord-constant, IsWord-later, reads-constant, reads-lt}
use Rattle.am_domain.specs.Tuple.{IsTuple}
use Rattle.am_domain.proofs.Laws.{AreWords-nil, AreWords-cons}
use Rattle.am_problem.specs.Examples.{split}
use Rattle.am_query.specs.inside.Words.{AreWordsIn}
use Rattle.am_query.proofs.Builds.{literal-same}

-- so many words of w literals
pub record AreLong (w count : ℕ) (words : List (List ℕ)) : Type 0 where
  pub many : length words ≡ count
  pub bits : All (λ word. length word ≡ w) words

-- words of literals have their length
pub AreLong-words : (w count vars : ℕ) (words : List (List ℕ)) → AreWordsIn w count vars words → AreLong w count words
AreLong-words w count vars words h = record { many = h.many; bits = λ i d l. (h.each i d l).bits }

-- words of literals are words of literals of a larger circuit too
pub AreWordsIn-later : (w count n m : ℕ) (words : List (List ℕ)) → n ≤ m → AreWordsIn w count n words →
    AreWordsIn w count m words
AreWordsIn-later w count n m words l h = record { many = h.many; each = λ i d k. IsWord-later w n m _ l (h.each i d k) }

-- no words, and one word more
pub AreWordsIn-nil : (w n : ℕ) → AreWordsIn w 0 n []
AreWordsIn-nil w n = record { many = refl; each = All-nil (IsWord w n) }

-- a word before words
pub AreWordsIn-cons : (w count n : ℕ) (word : List ℕ) (words : List (List ℕ)) → IsWord w n word →
    AreWordsIn w count n words →
    AreWordsIn w (suc count) n (word ∷ words)
AreWordsIn-cons w count n word words h k =
    record { many = ap suc k.many; each = All-cons (IsWord w n) word words h k.each }

-- a tuple, and a word after it
pub AreWordsIn-snoc : (w count n : ℕ) (words : List (List ℕ)) (word : List ℕ) → AreWordsIn w count n words →
    IsWord w n word →
    AreWordsIn w (count + 1) n (words ++ word ∷ [])
AreWordsIn-snoc w count n words word h k = record {
  many = length-append words (word ∷ []) ∙ ap (λ c. c + 1) h.many;
  each = All-append (IsWord w n) words (word ∷ []) h.each (All-cons (IsWord w n) word [] k (All-nil (IsWord w n)));
}

-- words and one more of their length
pub AreLong-snoc : (w count : ℕ) (words : List (List ℕ)) (word : List ℕ) → AreLong w count words → length word ≡ w →
    AreLong w (count + 1) (words ++ word ∷ [])
AreLong-snoc w count words word h k =
    let Long : List ℕ → Type 0 = λ x. length x ≡ w in
    record {
      many = length-append words (word ∷ []) ∙ ap (λ c. c + 1) h.many;
      bits = All-append Long words (word ∷ []) h.bits (All-cons Long word [] k (All-nil Long));
    }

-- one literal above a word
pub IsWord-snoc : (w n : ℕ) (word : List ℕ) (l : ℕ) → IsWord w n word → IsLiteral n l →
    IsWord (w + 1) n (word ++ l ∷ [])
IsWord-snoc w n word l h k = record {
  bits = length-append word (l ∷ []) ∙ ap (λ c. c + 1) h.bits;
  inside = All-append (IsLiteral n) word (l ∷ []) h.inside (All-cons (IsLiteral n) l [] k (All-nil (IsLiteral n)));
}

-- what is read

-- words and one more read as their values and its
pub map-snoc : (v : ℕ → Bool) (words : List (List ℕ)) (word : List ℕ) →
    map (reads v) (words ++ word ∷ []) ≡ map (reads v) words ++ reads v word ∷ []
map-snoc v [] word = refl
map-snoc v (x ∷ words) word = ap (λ xs. reads v x ∷ xs) (map-snoc v words word)

-- the same is read where the earlier variables have the same truth values
pub reads-same : (u v : ℕ → Bool) (n : ℕ) → ((x : ℕ) → x < n → u x ≡ v x) → (word : List ℕ) → All (IsLiteral n) word →
    reads u word ≡ reads v word
reads-same u v n same [] h = refl
reads-same u v n same (l ∷ word) h =
    rw (
      literal-same u v n l same (All-head (IsLiteral n) l word h),
      reads-same u v n same word (All-tail (IsLiteral n) l word h),
    ) refl

-- truth values that agree on a circuit's variables read its words the same
pub map-same : (u v : ℕ → Bool) (w n : ℕ) → ((x : ℕ) → x < n → u x ≡ v x) → (words : List (List ℕ)) →
    All (IsWord w n) words →
    map (reads u) words ≡ map (reads v) words
map-same u v w n same [] h = refl
map-same u v w n same (word ∷ words) h =
    rw (
      reads-same u v n same word (All-head (IsWord w n) word words h).inside,
      map-same u v w n same words (All-tail (IsWord w n) word words h),
    ) refl

-- words read as a tuple
AreWords-reads : (v : ℕ → Bool) (w : ℕ) (words : List (List ℕ)) → All (λ word. length word ≡ w) words →
    AreWords w (map (reads v) words)
AreWords-reads v w [] h = AreWords-nil w
AreWords-reads v w (word ∷ words) h =
    let Long : List ℕ → Type 0 = λ x. length x ≡ w in
    AreWords-cons w (reads v word) (map (reads v) words) (rw (← All-head Long word words h) (reads-lt v word))
    (AreWords-reads v w words (All-tail Long word words h))

-- words of their length read as a tuple
pub IsTuple-reads : (v : ℕ → Bool) (w count : ℕ) (words : List (List ℕ)) → AreLong w count words →
    IsTuple w count (map (reads v) words)
IsTuple-reads v w count words h =
    record { counted = length-map words (reads v) ∙ h.many; words = AreWords-reads v w words h.bits }

-- constants

-- constants are words of literals of any circuit
pub constants-words : (w n : ℕ) → 0 < n → (cs : List ℕ) → AreWordsIn w (length cs) n (map (constant w) cs)
constants-words w n pos [] = AreWordsIn-nil w n
constants-words w n pos (c ∷ cs) =
    AreWordsIn-cons w (length cs) n (constant w c) (map (constant w) cs) (IsWord-constant w c n pos)
    (constants-words w n pos cs)

-- constants read as their words
pub constants-read : (v : ℕ → Bool) (w : ℕ) → IsTrue (v 0) → (cs : List ℕ) → AreWords w cs →
    map (reads v) (map (constant w) cs) ≡ cs
constants-read v w t [] h = refl
constants-read v w t (c ∷ cs) h = rw (reads-constant v w c t (h 0), constants-read v w t cs (λ i. h (suc i))) refl

-- tuples that are cut out of a row

pub map-take : {A B : Type 0} (f : A → B) (n : ℕ) (xs : List A) → map f (take n xs) ≡ take n (map f xs)
map-take f zero xs = refl
map-take f (suc n) [] = refl
map-take f (suc n) (x ∷ xs) = ap (λ ys. f x ∷ ys) (map-take f n xs)

pub map-drop : {A B : Type 0} (f : A → B) (n : ℕ) (xs : List A) → map f (drop n xs) ≡ drop n (map f xs)
map-drop f zero xs = refl
map-drop f (suc n) [] = refl
map-drop f (suc n) (x ∷ xs) = map-drop f n xs

-- what the tuples of a row read are the tuples of what the row reads
pub map-split : (v : ℕ → Bool) (k n : ℕ) (fields : List (List ℕ)) →
    map (map (reads v)) (split k n fields) ≡ split k n (map (reads v) fields)
unfolding split
map-split v k zero fields = refl
map-split v k (suc n) fields =
    rw (map-take (reads v) k fields, map-split v k n (drop k fields), map-drop (reads v) k fields) refl

-- how many tuples there are
pub length-pieces : {A : Type 0} (k n : ℕ) (xs : List A) → length (split k n xs) ≡ n
unfolding split
length-pieces k zero xs = refl
length-pieces k (suc n) xs = ap suc (length-pieces k n (drop k xs))

-- the first tuple of words, and the others
pub first-words : (w k m n : ℕ) (row : List (List ℕ)) → AreWordsIn w (suc m * k) n row → AreWordsIn w k n (take k row)
first-words w k m n row h =
    let some : k ≤ length row = omega (arith, h.many) in
    record { many = length-take-le k row some; each = All-take (IsWord w n) k row h.each }

-- a row of tuples without its first is a row of words
pub other-words : (w k m n : ℕ) (row : List (List ℕ)) → AreWordsIn w (suc m * k) n row →
    AreWordsIn w (m * k) n (drop k row)
other-words w k m n row h =
    record { many = omega (arith, length-drop k row, h.many); each = All-drop (IsWord w n) k row h.each }

-- the tuples of words
pub split-words : (w k n vars : ℕ) (fields : List (List ℕ)) → AreWordsIn w (n * k) vars fields →
    All (AreWordsIn w k vars) (split k n fields)
unfolding split
split-words w k zero vars fields h = All-nil (AreWordsIn w k vars)
split-words w k (suc n) vars fields h =
    All-cons (AreWordsIn w k vars) (take k fields) (split k n (drop k fields))
    (first-words w k n vars fields h) (split-words w k n vars (drop k fields) (other-words w k n vars fields h))

-- the tuples of a row have its words' length
pub split-long : (w k n : ℕ) (fields : List (List ℕ)) → AreLong w (n * k) fields → All (AreLong w k) (split k n fields)
unfolding split
split-long w k zero fields h = All-nil (AreLong w k)
split-long w k (suc n) fields h =
    let Long : List ℕ → Type 0 = λ x. length x ≡ w in
    let some : k ≤ length fields = omega (arith, h.many) in
    let rest : length (drop k fields) ≡ n * k = omega (arith, length-drop k fields, h.many) in
    All-cons (AreLong w k) (take k fields) (split k n (drop k fields))
    (record { many = length-take-le k fields some; bits = All-take Long k fields h.bits })
    (split-long w k n (drop k fields) (record { many = rest; bits = All-drop Long k fields h.bits }))
