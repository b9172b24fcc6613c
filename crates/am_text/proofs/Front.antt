-- The token in front of a text: after spaces, a parenthesis or a word.
use Rattle.std.proofs.Common.{◌≡◌, ℕ, suc, ◌+◌, ◌<◌, Bool, true, false, cond, List, [], ◌∷◌, ◌++◌, length, take, drop}
use Rattle.std.proofs.Common.{ap, ◌∙◌, refl, sym, arith, ⊎_elim, ◌⊎◌, ◌==◌}
use Rattle.std.specs.Prelude.{reverse}
use Rattle.std.specs.List.{prefix_len, suffix_len, list_all}
use Rattle.std.proofs.lemmas.Bool.{cases_Bool, and_parts, eqb-true, not-true, or_cases}
use Rattle.std.proofs.lemmas.List.{reverse-append}
use Rattle.std.proofs.Math.Seq.{take-append_seam, drop-append_seam}
use Rattle.am_text.specs.Tokens.{Placed, placed, is_space, is_parenthesis, is_word_byte, tokens_at, word_byte_before}
use Rattle.am_text.specs.Scan.{token_len}
use Rattle.am_text.proofs.Rows.{prefix_yes, prefix_no, prefix_zero, row_ends, row_whole}

-- ---- the first byte

-- a space in front is in no token
pub tokens_at-space : (at b : ℕ) (bs : List ℕ) → is_space b ≡ true → tokens_at at (b ∷ bs) ≡ tokens_at (at + 1) bs
tokens_at-space at b bs h = rw h refl

-- a parenthesis in front is a token of its own
pub tokens_at-parenthesis : (at b : ℕ) (bs : List ℕ) → is_space b ≡ false → is_parenthesis b ≡ true →
    tokens_at at (b ∷ bs) ≡ placed at (b ∷ []) ∷ tokens_at (at + 1) bs
tokens_at-parenthesis at b bs h k = rw (h, k) refl

-- a byte of a word in front begins or extends the first token after it
pub tokens_at-word : (at b : ℕ) (bs : List ℕ) → is_word_byte b ≡ true →
    tokens_at at (b ∷ bs) ≡ word_byte_before at b bs (tokens_at (at + 1) bs)
tokens_at-word at b bs h =
    let space : is_space b ≡ false = not-true _ (and_parts _ _ h).0 in
    let parenthesis : is_parenthesis b ≡ false = not-true _ (and_parts _ _ h).1 in
    rw (space, parenthesis) refl

-- a byte of a word before another one extends its word
pub before_word : (at b c : ℕ) (cs : List ℕ) (t : Placed) (ts : List Placed) → is_word_byte c ≡ true →
    word_byte_before at b (c ∷ cs) (t ∷ ts) ≡ placed at (b ∷ t.word) ∷ ts
before_word at b c cs t ts h = rw h refl

-- a byte of a word before any other byte is a word of its own
pub before_other : (at b c : ℕ) (cs : List ℕ) (ts : List Placed) → is_word_byte c ≡ false →
    word_byte_before at b (c ∷ cs) ts ≡ placed at (b ∷ []) ∷ ts
before_other at b c cs [] h = refl
before_other at b c cs (t ∷ ts) h = rw h refl

word_byte_is : (b : ℕ) → is_space b ≡ false → is_parenthesis b ≡ false → is_word_byte b ≡ true
word_byte_is b h k = rw (h, k) refl

-- ---- a byte is a space, a parenthesis or of a word

-- each byte is a space, a parenthesis or of a word
pub by_byte : {P : Type 0} (b : ℕ) → (is_space b ≡ true → P) → (is_space b ≡ false → is_parenthesis b ≡ true → P) →
    (is_word_byte b ≡ true → P) → P
by_byte b at_space at_parenthesis at_word =
    ⊎_elim at_space
    (λ (h : is_space b ≡ false). ⊎_elim (at_parenthesis h)
    (λ (k : is_parenthesis b ≡ false). at_word (word_byte_is b h k)) (cases_Bool (is_parenthesis b)))
    (cases_Bool (is_space b))

-- a space is of no word
pub space_no_word : (b : ℕ) → is_space b ≡ true → is_word_byte b ≡ false
space_no_word b h = rw h refl

-- a parenthesis is of no word
pub parenthesis_no_word : (b : ℕ) → is_space b ≡ false → is_parenthesis b ≡ true → is_word_byte b ≡ false
parenthesis_no_word b h k = rw (h, k) refl

-- a byte of a word is no space
pub word_no_space : (b : ℕ) → is_word_byte b ≡ true → is_space b ≡ false
word_no_space b h = not-true _ (and_parts _ _ h).0

-- ---- spaces

-- the tokens after n bytes
abbrev after : ℕ → List ℕ → ℕ → List Placed
after at bs n = tokens_at (at + n) (drop n bs)

tokens_at-spaces : (at : ℕ) (bs : List ℕ) → tokens_at at bs ≡ after at bs (prefix_len is_space bs)
tokens_at-spaces at [] = refl
tokens_at-spaces at (b ∷ bs) =
    let n = prefix_len is_space bs in
    ⊎_elim
    (λ (h : is_space b ≡ true).
    tokens_at-space at b bs h
    ∙ tokens_at-spaces (at + 1) bs
    ∙ ap (λ k. tokens_at k (drop n bs)) (let e : at + 1 + n ≡ at + suc n = omega arith in e)
    ∙ ap (after at (b ∷ bs)) (sym (prefix_yes is_space b bs h)))
    (λ (h : is_space b ≡ false).
    ap (λ k. tokens_at k (b ∷ bs)) (let e : at ≡ at + 0 = omega arith in e)
    ∙ ap (after at (b ∷ bs)) (sym (prefix_no is_space b bs h)))
    (cases_Bool (is_space b))

-- ---- a word

-- the word in front has n bytes after its first
abbrev word_then : ℕ → ℕ → List ℕ → ℕ → List Placed
word_then at b bs n = placed at (b ∷ take n bs) ∷ tokens_at (at + suc n) (drop n bs)

-- a word in front goes as far as bytes of words do
pub tokens_at-front : (at b : ℕ) (bs : List ℕ) → is_word_byte b ≡ true →
    tokens_at at (b ∷ bs) ≡ word_then at b bs (prefix_len is_word_byte bs)
tokens_at-front at b [] h = tokens_at-word at b [] h
tokens_at-front at b (c ∷ cs) h =
    let n = prefix_len is_word_byte cs in
    ⊎_elim
    (λ (k : is_word_byte c ≡ true).
    tokens_at-word at b (c ∷ cs) h
    ∙ ap (word_byte_before at b (c ∷ cs)) (tokens_at-front (at + 1) c cs k)
    ∙ before_word at b c cs _ _ k
    ∙ ap (λ i. placed at (b ∷ c ∷ take n cs) ∷ tokens_at i (drop n cs))
    (let e : at + 1 + suc n ≡ at + suc (suc n) = omega arith in e)
    ∙ ap (word_then at b (c ∷ cs)) (sym (prefix_yes is_word_byte c cs k)))
    (λ (k : is_word_byte c ≡ false).
    tokens_at-word at b (c ∷ cs) h
    ∙ before_other at b c cs _ k
    ∙ ap (word_then at b (c ∷ cs)) (sym (prefix_no is_word_byte c cs k)))
    (cases_Bool (is_word_byte c))

-- a word, whole: no byte of a word follows it
pub tokens_at-whole : (at b : ℕ) (word behind : List ℕ) →
    list_all is_word_byte (b ∷ word) ≡ true → prefix_len is_word_byte behind ≡ 0 →
    tokens_at at (b ∷ (word ++ behind)) ≡ placed at (b ∷ word) ∷ tokens_at (at + suc (length word)) behind
tokens_at-whole at b word behind h ends =
    let n = length word in
    tokens_at-front at b (word ++ behind) (and_parts _ _ h).0
    ∙ ap (word_then at b (word ++ behind)) (row_whole is_word_byte word behind (and_parts _ _ h).1 ends)
    ∙ ap (λ xs. placed at (b ∷ xs) ∷ tokens_at (at + suc n) (drop n (word ++ behind))) (take-append_seam word behind)
    ∙ ap (λ xs. placed at (b ∷ word) ∷ tokens_at (at + suc n) xs) (drop-append_seam word behind)

-- ---- the token in front

-- the token in front has n bytes
abbrev token_then : ℕ → List ℕ → ℕ → List Placed
token_then at bs n = placed at (take n bs) ∷ tokens_at (at + n) (drop n bs)

tokens_at-first : (at : ℕ) (bs : List ℕ) → 0 < length bs → prefix_len is_space bs ≡ 0 →
    tokens_at at bs ≡ token_then at bs (token_len bs)
tokens_at-first at [] long h = absurd (omega arith)
tokens_at-first at (b ∷ bs) long h =
    let space = prefix_zero is_space b bs h in
    let len : Bool → ℕ = λ t. cond t 1 (prefix_len is_word_byte (b ∷ bs)) in
    ⊎_elim
    (λ (k : is_parenthesis b ≡ true).
    tokens_at-parenthesis at b bs space k ∙ ap (λ t. token_then at (b ∷ bs) (len t)) (sym k))
    (λ (k : is_parenthesis b ≡ false).
    let word = word_byte_is b space k in
    tokens_at-front at b bs word
    ∙ ap (token_then at (b ∷ bs)) (sym (prefix_yes is_word_byte b bs word))
    ∙ ap (λ t. token_then at (b ∷ bs) (len t)) (sym k))
    (cases_Bool (is_parenthesis b))

-- what stands after the n spaces in front
abbrev Behind : List ℕ → ℕ → List ℕ → Type 0
Behind bs n rest = (n ≡ prefix_len is_space bs) × (rest ≡ drop n bs)

tokens_at-after : (at n : ℕ) (bs rest : List ℕ) → Behind bs n rest → tokens_at at bs ≡ tokens_at (at + n) rest
tokens_at-after at n bs rest behind =
    tokens_at-spaces at bs ∙ ap (after at bs) (sym behind.0) ∙ ap (tokens_at (at + n)) (sym behind.1)

-- the next token starts after the spaces in front, where bytes are left there
pub tokens_at-next : (at n : ℕ) (bs rest : List ℕ) → Behind bs n rest → 0 < length rest →
    tokens_at at bs ≡ token_then (at + n) rest (token_len rest)
tokens_at-next at n bs rest behind long =
    tokens_at-after at n bs rest behind
    ∙ tokens_at-first (at + n) rest long
    (ap (prefix_len is_space) behind.1 ∙ ap (λ k. prefix_len is_space (drop k bs)) behind.0 ∙ row_ends is_space bs)

-- spaces alone have no token
pub tokens_at-none : (at n : ℕ) (bs rest : List ℕ) → Behind bs n rest → length rest ≡ 0 → tokens_at at bs ≡ []
tokens_at-none at n bs [] behind none = tokens_at-after at n bs [] behind
tokens_at-none at n bs (b ∷ rest) behind none = absurd (omega arith)

-- ---- seams

-- no word goes on from xs into ys
abbrev pub IsSeam : List ℕ → List ℕ → Type 0
IsSeam xs ys = (suffix_len is_word_byte xs ≡ 0) ⊎ (prefix_len is_word_byte ys ≡ 0)

-- a word after a seam begins there
pub seam_front : (xs : List ℕ) (y : ℕ) (ys : List ℕ) → is_word_byte y ≡ true → IsSeam xs (y ∷ ys) →
    suffix_len is_word_byte xs ≡ 0
seam_front xs y ys h =
    ⊎_elim (λ ends. ends) (λ (e : prefix_len is_word_byte (y ∷ ys) ≡ 0). cc (h, prefix_zero is_word_byte y ys e))

-- a word before a seam ends there
pub seam_back : (x : ℕ) (ys : List ℕ) → is_word_byte x ≡ true → IsSeam (x ∷ []) ys → prefix_len is_word_byte ys ≡ 0
seam_back x ys h =
    ⊎_elim (λ (e : suffix_len is_word_byte (x ∷ []) ≡ 0). cc (h, prefix_zero is_word_byte x [] e)) (λ stops. stops)

-- a byte of no word ends no word
pub suffix_none : (front : List ℕ) (b : ℕ) → is_word_byte b ≡ false → suffix_len is_word_byte (front ++ b ∷ []) ≡ 0
suffix_none front b h =
    ap (prefix_len is_word_byte) (reverse-append front (b ∷ [])) ∙ prefix_no is_word_byte b (reverse front) h

-- a parenthesis is no space
pub parenthesis_is : (b : ℕ) → is_parenthesis b ≡ true → is_space b ≡ false
parenthesis_is b h =
    ⊎_elim
    (λ (k : (b == 40) ≡ true). rw (eqb-true b 40 k) refl)
    (λ (k : (b == 41) ≡ true). rw (eqb-true b 41 k) refl)
    (or_cases _ _ h)
