-- The tokens of a text are its parentheses and its longest rows of bytes of words, in order, and no byte is left out.
use Rattle.std.proofs.Common.{◌≡◌, ℕ, suc, zero, ◌+◌, ◌<◌, ◌≤◌, true, false, List, [], ◌∷◌, ◌++◌, length, take, drop}
use Rattle.std.proofs.Common.{ap, ◌∙◌, refl, sym, subst, arith, ⊎_elim, inl, inr, append_assoc, length-append}
use Rattle.std.proofs.Common.{length-drop, take-append-drop, map, get_or}
use Rattle.std.specs.Prelude.{All, Bool, filter, not}
use Rattle.std.specs.List.{prefix_len, suffix_len, concat}
use Rattle.std.specs.List.Sorted.{IsStrictlyIncreasing}
use Rattle.std.proofs.lemmas.Bool.{cases_Bool}
use Rattle.std.proofs.lemmas.List.Folds.{length-prefix_len}
use Rattle.am_text.specs.Tokens.{Placed, placed, is_space, is_parenthesis, is_word_byte, tokens_at, word_byte_before}
use Rattle.am_text.specs.Tokens.{IsTokenOf, AreTokensOf}
use Rattle.am_text.proofs.Front.{tokens_at-space, tokens_at-parenthesis, tokens_at-word, tokens_at-front, by_byte}
use Rattle.am_text.proofs.Front.{space_no_word, parenthesis_no_word, word_no_space, IsSeam, seam_front, suffix_none}
use Rattle.am_text.proofs.Rows.{row_passes, row_ends}

-- ---- in order

-- the places are n or more, and each is below the next
abbrev RiseFrom : ℕ → List Placed → Type 0
RiseFrom n [] = Unit {0}
RiseFrom n (t ∷ ts) = (n ≤ t.place) × RiseFrom (t.place + 1) ts

RiseFrom-below : (m n : ℕ) (ts : List Placed) → m ≤ n → RiseFrom n ts → RiseFrom m ts
RiseFrom-below m n [] le rise = tt
RiseFrom-below m n (t ∷ ts) le rise = (omega (arith, rise.0), rise.1)

RiseFrom-cons : (t : Placed) (ts : List Placed) → RiseFrom (t.place + 1) ts → RiseFrom t.place (t ∷ ts)
RiseFrom-cons t ts rise = (omega arith, rise)

rise_before : (at b : ℕ) (bs : List ℕ) (ts : List Placed) →
    RiseFrom (at + 1) ts → RiseFrom at (word_byte_before at b bs ts)
rise_before at b [] ts rise = RiseFrom-cons (placed at (b ∷ [])) ts rise
rise_before at b (c ∷ cs) [] rise = RiseFrom-cons (placed at (b ∷ [])) [] tt
rise_before at b (c ∷ cs) (t ∷ ts) rise =
    let later = RiseFrom-below (at + 1) (t.place + 1) ts (omega (arith, rise.0)) rise.1 in
    ⊎_elim
    (λ (h : is_word_byte c ≡ true). rw h (RiseFrom-cons (placed at (b ∷ t.word)) ts later))
    (λ (h : is_word_byte c ≡ false). rw h (RiseFrom-cons (placed at (b ∷ [])) (t ∷ ts) rise))
    (cases_Bool (is_word_byte c))

RiseFrom-tokens : (at : ℕ) (bs : List ℕ) → RiseFrom at (tokens_at at bs)
RiseFrom-tokens at [] = tt
RiseFrom-tokens at (b ∷ bs) =
    let later = RiseFrom-tokens (at + 1) bs in
    by_byte b
    (λ h. subst (RiseFrom at) (sym (tokens_at-space at b bs h)) (RiseFrom-below at (at + 1) _ (omega arith) later))
    (λ h k. subst (RiseFrom at) (sym (tokens_at-parenthesis at b bs h k)) (RiseFrom-cons (placed at (b ∷ [])) _ later))
    (λ h. subst (RiseFrom at) (sym (tokens_at-word at b bs h)) (rise_before at b bs _ later))

increasing : (n : ℕ) (ts : List Placed) → RiseFrom n ts → IsStrictlyIncreasing (map (λ t. t.place) ts)
increasing n [] rise k h = absurd (omega arith)
increasing n (t ∷ []) rise k h = absurd (omega arith)
increasing n (t ∷ u ∷ ts) rise zero h = omega (arith, rise.1.0)
increasing n (t ∷ u ∷ ts) rise (suc k) h =
    let places : List ℕ = map (λ v. v.place) (u ∷ ts) in
    let next : suc (k + 1) ≡ suc k + 1 = omega arith in
    subst (λ m. get_or places k 0 < get_or (t.place ∷ places) m 0) next
    (increasing (t.place + 1) (u ∷ ts) rise.1 k (omega arith))

-- ---- complete

abbrev is_kept : ℕ → Bool
is_kept b = not (is_space b)

abbrev joined : List Placed → List ℕ
joined ts = concat (map (λ t. t.word) ts)

joined_before : (at b : ℕ) (bs : List ℕ) (ts : List Placed) → joined (word_byte_before at b bs ts) ≡ b ∷ joined ts
joined_before at b [] ts = refl
joined_before at b (c ∷ cs) [] = refl
joined_before at b (c ∷ cs) (t ∷ ts) =
    ⊎_elim
    (λ (h : is_word_byte c ≡ true). rw h refl)
    (λ (h : is_word_byte c ≡ false). rw h refl)
    (cases_Bool (is_word_byte c))

kept : (b : ℕ) (bs : List ℕ) → is_space b ≡ false → filter is_kept (b ∷ bs) ≡ b ∷ filter is_kept bs
kept b bs h = rw h refl

left_out : (b : ℕ) (bs : List ℕ) → is_space b ≡ true → filter is_kept (b ∷ bs) ≡ filter is_kept bs
left_out b bs h = rw h refl

joined-tokens : (at : ℕ) (bs : List ℕ) → joined (tokens_at at bs) ≡ filter is_kept bs
joined-tokens at [] = refl
joined-tokens at (b ∷ bs) =
    let later = ap (λ xs. b ∷ xs) (joined-tokens (at + 1) bs) in
    by_byte b
    (λ h. ap joined (tokens_at-space at b bs h) ∙ joined-tokens (at + 1) bs ∙ sym (left_out b bs h))
    (λ h k. ap joined (tokens_at-parenthesis at b bs h k) ∙ later ∙ sym (kept b bs h))
    (λ h. ap joined (tokens_at-word at b bs h) ∙ joined_before at b bs _ ∙ later ∙ sym (kept b bs (word_no_space b h)))

-- ---- slices

All-cons : (text : List ℕ) (t : Placed) (ts : List Placed) →
    IsTokenOf text t → All (IsTokenOf text) ts → All (IsTokenOf text) (t ∷ ts)
All-cons text t ts p ps zero d h = p
All-cons text t ts p ps (suc k) d h = ps k d (omega arith)

parenthesis_in_whole : (front : List ℕ) (b : ℕ) (bs : List ℕ) → is_parenthesis b ≡ true →
    IsTokenOf (front ++ b ∷ bs) (placed (length front) (b ∷ []))
parenthesis_in_whole front b bs h = record {
  front = front;
  back = bs;
  slice = sym (append_assoc front (b ∷ []) bs);
  place = refl;
  whole = inl (refl, rw h refl);
}

word_in_whole : (front : List ℕ) (b : ℕ) (bs : List ℕ) → is_word_byte b ≡ true → suffix_len is_word_byte front ≡ 0 →
    IsTokenOf (front ++ b ∷ bs) (placed (length front) (b ∷ take (prefix_len is_word_byte bs) bs))
word_in_whole front b bs h cut =
    let n = prefix_len is_word_byte bs in
    let split : front ++ b ∷ bs ≡ front ++ b ∷ (take n bs ++ drop n bs) =
    ap (λ xs. front ++ b ∷ xs) (sym (take-append-drop n bs)) in
    record {
      front = front;
      back = drop n bs;
      slice = split ∙ sym (append_assoc front (b ∷ take n bs) (drop n bs));
      place = refl;
      whole = inr ((omega arith, rw h (row_passes is_word_byte bs)), (cut, row_ends is_word_byte bs));
    }

-- tokens of bytes after a front are tokens of the whole
abbrev InWhole : List ℕ → List ℕ → Type 0
InWhole front bs = All (IsTokenOf (front ++ bs)) (tokens_at (length front) bs)

-- the front moves over a row of bytes
moved : (front row bs : List ℕ) (at : ℕ) → at ≡ length front + length row →
    InWhole (front ++ row) bs → All (IsTokenOf (front ++ (row ++ bs))) (tokens_at at bs)
moved front row bs at where_ whole =
    let place : length (front ++ row) ≡ at = length-append front row ∙ sym where_ in
    subst (λ text. All (IsTokenOf text) (tokens_at at bs)) (append_assoc front row bs)
    (subst (λ n. All (IsTokenOf ((front ++ row) ++ bs)) (tokens_at n bs)) place whole)

in_whole : (fuel : ℕ) (front bs : List ℕ) → length bs ≤ fuel → IsSeam front bs → InWhole front bs
in_whole fuel front [] h seam = λ k d none. absurd (omega arith)
in_whole zero front (b ∷ bs) h seam = absurd (omega arith)
in_whole (suc fuel) front (b ∷ bs) h seam =
    let at = length front in
    let Tokens : List Placed → Type 0 = λ ts. All (IsTokenOf (front ++ b ∷ bs)) ts in
    let behind : is_word_byte b ≡ false → Tokens (tokens_at (at + 1) bs) = λ no.
    moved front (b ∷ []) bs (at + 1) (omega arith)
    (in_whole fuel (front ++ b ∷ []) bs (omega arith) (inl (suffix_none front b no))) in
    by_byte b
    (λ space. subst Tokens (sym (tokens_at-space at b bs space)) (behind (space_no_word b space)))
    (λ space parenthesis.
    subst Tokens (sym (tokens_at-parenthesis at b bs space parenthesis))
    (All-cons _ (placed at (b ∷ [])) _ (parenthesis_in_whole front b bs parenthesis)
    (behind (parenthesis_no_word b space parenthesis))))
    (λ word.
    let n = prefix_len is_word_byte bs in
    let row = b ∷ take n bs in
    let len : length (take n bs) ≡ n = length-prefix_len is_word_byte bs in
    let fewer : length (drop n bs) ≤ fuel = omega (arith, length-drop n bs) in
    let again : front ++ (row ++ drop n bs) ≡ front ++ b ∷ bs = ap (λ xs. front ++ b ∷ xs) (take-append-drop n bs) in
    let rest = moved front row (drop n bs) (at + suc n) (omega (arith, len))
    (in_whole fuel (front ++ row) (drop n bs) fewer (inr (row_ends is_word_byte bs))) in
    subst Tokens (sym (tokens_at-front at b bs word))
    (All-cons _ (placed at row) _ (word_in_whole front b bs word (seam_front front b bs word seam))
    (subst (λ text. All (IsTokenOf text) (tokens_at (at + suc n) (drop n bs))) again rest)))

-- the tokens read of a text are its tokens
pub AreTokensOf-text : (text : List ℕ) → AreTokensOf text (tokens_at 0 text)
AreTokensOf-text text = record {
  slices = in_whole (length text) [] text (omega arith) (inl refl);
  order = increasing 0 _ (RiseFrom-tokens 0 text);
  complete = joined-tokens 0 text;
}
