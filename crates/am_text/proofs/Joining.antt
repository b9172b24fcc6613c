-- The words of joined texts are the words of the parts, where no word goes over the seam.
use Rattle.std.proofs.Common.{◌≡◌, ℕ, ◌+◌, true, false, cond, List, [], ◌∷◌, ◌++◌, length, ap, ◌∙◌, refl, sym, arith}
use Rattle.std.proofs.Common.{⊎_elim, inl, inr, append-nil, map}
use Rattle.std.specs.Prelude.{reverse}
use Rattle.std.specs.List.{prefix_len, suffix_len}
use Rattle.std.proofs.lemmas.Bool.{cases_Bool}
use Rattle.std.proofs.lemmas.List.{reverse-append, map-append}
use Rattle.am_text.specs.Tokens.{Placed, placed, is_space, is_parenthesis, is_word_byte, tokens_at, word_byte_before}
use Rattle.am_text.specs.Tokens.{words_of, IsTokenWord}
use Rattle.am_text.proofs.Front.{tokens_at-space, tokens_at-parenthesis, tokens_at-word, tokens_at-front}
use Rattle.am_text.proofs.Front.{tokens_at-whole, before_word, before_other, by_byte, IsSeam, seam_back}
use Rattle.am_text.proofs.Rows.{prefix_no, prefix_zero, row_none}

-- ---- a byte of a word before joined texts

-- without the first byte it is still a seam
seam_rest : (x : ℕ) (xs ys : List ℕ) → IsSeam (x ∷ xs) ys → IsSeam xs ys
seam_rest x xs ys =
    ⊎_elim
    (λ (h : suffix_len is_word_byte (x ∷ xs) ≡ 0).
    let turned = ap (prefix_len is_word_byte) (sym (reverse-append (x ∷ []) xs)) in
    inl (row_none is_word_byte (reverse xs) (x ∷ []) (turned ∙ h)))
    (λ (h : prefix_len is_word_byte ys ≡ 0). inr h)

before_stop : (at x : ℕ) (ys : List ℕ) (us : List Placed) → prefix_len is_word_byte ys ≡ 0 →
    word_byte_before at x ys us ≡ placed at (x ∷ []) ∷ us
before_stop at x [] us h = refl
before_stop at x (y ∷ ys) us h = before_other at x y ys us (prefix_zero is_word_byte y ys h)

before_tokens : (at x c : ℕ) (cs zs : List ℕ) (t : Placed) (ts us : List Placed) →
    word_byte_before at x (c ∷ (cs ++ zs)) ((t ∷ ts) ++ us) ≡ word_byte_before at x (c ∷ cs) (t ∷ ts) ++ us
before_tokens at x c cs zs t ts us =
    let later : List Placed → List Placed = λ vs. vs ++ us in
    ⊎_elim
    (λ (k : is_word_byte c ≡ true).
    before_word at x c (cs ++ zs) t (ts ++ us) k ∙ ap later (sym (before_word at x c cs t ts k)))
    (λ (k : is_word_byte c ≡ false).
    before_other at x c (cs ++ zs) (t ∷ (ts ++ us)) k ∙ ap later (sym (before_other at x c cs (t ∷ ts) k)))
    (cases_Bool (is_word_byte c))

before_joined : (at x : ℕ) (xs ys : List ℕ) (us : List Placed) → is_word_byte x ≡ true → IsSeam (x ∷ xs) ys →
    word_byte_before at x (xs ++ ys) (tokens_at (at + 1) xs ++ us)
    ≡ word_byte_before at x xs (tokens_at (at + 1) xs) ++ us
before_joined at x [] ys us h seam = before_stop at x ys us (seam_back x ys h seam)
before_joined at x (c ∷ cs) ys us h seam =
    ⊎_elim
    (λ (k : is_word_byte c ≡ true).
    let front = tokens_at-front (at + 1) c cs k in
    ap (λ ts. word_byte_before at x (c ∷ (cs ++ ys)) (ts ++ us)) front
    ∙ before_tokens at x c cs ys _ _ us
    ∙ ap (λ ts. word_byte_before at x (c ∷ cs) ts ++ us) (sym front))
    (λ (k : is_word_byte c ≡ false).
    before_other at x c (cs ++ ys) _ k ∙ ap (λ vs. vs ++ us) (sym (before_other at x c cs _ k)))
    (cases_Bool (is_word_byte c))

-- ---- joined texts

-- joined texts have the tokens of the first and then those of the second, at their places in the whole
pub tokens_at-append : (at : ℕ) (xs ys : List ℕ) → IsSeam xs ys →
    tokens_at at (xs ++ ys) ≡ tokens_at at xs ++ tokens_at (at + length xs) ys
tokens_at-append at [] ys seam = ap (λ n. tokens_at n ys) (let e : at ≡ at + 0 = omega arith in e)
tokens_at-append at (x ∷ xs) ys seam =
    let along : at + 1 + length xs ≡ at + length (x ∷ xs) = omega arith in
    let later = tokens_at-append (at + 1) xs ys (seam_rest x xs ys seam)
    ∙ ap (λ n. tokens_at (at + 1) xs ++ tokens_at n ys) along in
    let us = tokens_at (at + length (x ∷ xs)) ys in
    let then : List Placed → List Placed = λ ts. ts ++ us in
    by_byte x
    (λ h. tokens_at-space at x (xs ++ ys) h ∙ later ∙ ap then (sym (tokens_at-space at x xs h)))
    (λ h k.
    tokens_at-parenthesis at x (xs ++ ys) h k
    ∙ ap (λ ts. placed at (x ∷ []) ∷ ts) later
    ∙ ap then (sym (tokens_at-parenthesis at x xs h k)))
    (λ h.
    tokens_at-word at x (xs ++ ys) h
    ∙ ap (word_byte_before at x (xs ++ ys)) later
    ∙ before_joined at x xs ys us h seam
    ∙ ap then (sym (tokens_at-word at x xs h)))

-- ---- words, wherever they stand

abbrev words_in : List Placed → List (List ℕ)
words_in ts = map (λ t. t.word) ts

-- a byte of a word before bytes whose words are given
abbrev joined_word : ℕ → List ℕ → List (List ℕ) → List (List ℕ)
joined_word b [] ws = (b ∷ []) ∷ ws
joined_word b (c ∷ cs) [] = (b ∷ []) ∷ []
joined_word b (c ∷ cs) (w ∷ ws) = cond (is_word_byte c) ((b ∷ w) ∷ ws) ((b ∷ []) ∷ w ∷ ws)

words_before : (at b : ℕ) (bs : List ℕ) (ts : List Placed) →
    words_in (word_byte_before at b bs ts) ≡ joined_word b bs (words_in ts)
words_before at b [] ts = refl
words_before at b (c ∷ cs) [] = refl
words_before at b (c ∷ cs) (t ∷ ts) =
    ⊎_elim
    (λ (h : is_word_byte c ≡ true). rw h refl)
    (λ (h : is_word_byte c ≡ false). rw h refl)
    (cases_Bool (is_word_byte c))

words_anywhere : (m n : ℕ) (bs : List ℕ) → words_in (tokens_at m bs) ≡ words_in (tokens_at n bs)
words_anywhere m n [] = refl
words_anywhere m n (b ∷ bs) =
    let later = words_anywhere (m + 1) (n + 1) bs in
    by_byte b
    (λ h. ap words_in (tokens_at-space m b bs h) ∙ later ∙ ap words_in (sym (tokens_at-space n b bs h)))
    (λ h k.
    ap words_in (tokens_at-parenthesis m b bs h k)
    ∙ ap (λ ws. (b ∷ []) ∷ ws) later
    ∙ ap words_in (sym (tokens_at-parenthesis n b bs h k)))
    (λ h.
    ap words_in (tokens_at-word m b bs h) ∙ words_before m b bs _
    ∙ ap (joined_word b bs) later
    ∙ sym (words_before n b bs _) ∙ ap words_in (sym (tokens_at-word n b bs h)))

-- ---- the words of a text

-- joined texts have the words of the first and then those of the second
pub words_of-append : (xs ys : List ℕ) → IsSeam xs ys → words_of (xs ++ ys) ≡ words_of xs ++ words_of ys
words_of-append xs ys seam =
    ap words_in (tokens_at-append 0 xs ys seam)
    ∙ map-append (λ t. t.word) (tokens_at 0 xs) (tokens_at (0 + length xs) ys)
    ∙ ap (λ ws. words_of xs ++ ws) (words_anywhere (0 + length xs) 0 ys)

-- a space in front adds no word
pub words_of-space : (b : ℕ) (bs : List ℕ) → is_space b ≡ true → words_of (b ∷ bs) ≡ words_of bs
words_of-space b bs h = ap words_in (tokens_at-space 0 b bs h) ∙ words_anywhere (0 + 1) 0 bs

-- a parenthesis in front is a word
pub words_of-parenthesis : (b : ℕ) (bs : List ℕ) → is_space b ≡ false → is_parenthesis b ≡ true →
    words_of (b ∷ bs) ≡ (b ∷ []) ∷ words_of bs
words_of-parenthesis b bs h k =
    ap words_in (tokens_at-parenthesis 0 b bs h k) ∙ ap (λ ws. (b ∷ []) ∷ ws) (words_anywhere (0 + 1) 0 bs)

-- a word alone
pub words_of-word : (word : List ℕ) → IsTokenWord word → words_of word ≡ word ∷ []
words_of-word [] is = absurd (omega (arith, is.0))
words_of-word (b ∷ bs) is =
    ap (λ xs. words_of (b ∷ xs)) (sym (append-nil bs)) ∙ ap words_in (tokens_at-whole 0 b bs [] is.1 refl)

-- a word before a byte of no word
pub words_of-before : (word : List ℕ) (b : ℕ) (bs : List ℕ) → IsTokenWord word → is_word_byte b ≡ false →
    words_of (word ++ b ∷ bs) ≡ word ∷ words_of (b ∷ bs)
words_of-before word b bs is h =
    words_of-append word (b ∷ bs) (inr (prefix_no is_word_byte b bs h))
    ∙ ap (λ ws. ws ++ words_of (b ∷ bs)) (words_of-word word is)
