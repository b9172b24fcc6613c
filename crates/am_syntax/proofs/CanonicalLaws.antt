-- The words of canonical texts.
use Rattle.std.proofs.Common.{Some, None, Ok, ◌≡◌, ℕ, ◌+◌, ◌<◌, Bool, true, false, cond, ◌||◌, not, List, [], ◌∷◌, ◌++◌}
use Rattle.std.proofs.Common.{decimal, ◌^◌, flat_map, codes, bytes_eq, ap, subst, ◌∙◌, sym, refl, arith, inl, inr, lit<}
use Rattle.std.specs.Prelude.{◌⊎◌, ◌==◌, ◌&&◌, nat_lt, length}
use Rattle.std.specs.List.{AllByRecursion, list_all, position_from, prefix_len, suffix_len}
use Rattle.std.proofs.lemmas.Bool.{and_from, and_parts, cases_Bool, le-leb, leb-true, ltb-true, ne_eqb, or_cases}
use Rattle.std.proofs.lemmas.Bool.{or_right}
use Rattle.std.proofs.lemmas.Iterator.Adapters.{position_from-zero}
use Rattle.std.proofs.lemmas.List.{append-nil}
use Rattle.am_text.specs.Tokens.{IsParenthesis, IsTokenWord, bad_byte, is_allowed, is_word_byte, words_of}
use Rattle.am_text.proofs.Laws.{IsSeam, parenthesis_is, suffix_none, words_of-append, words_of-parenthesis}
use Rattle.am_text.proofs.Laws.{words_of-space, words_of-word}
use Rattle.am_bv.specs.Terms.{fits}
use Rattle.am_bv.specs.declared.op.Op.{Op}
use Rattle.am_bv.specs.declared.term.Term.{Term}
use Rattle.am_bv.proofs.Laws.{by_induction, fits-Field}
use Rattle.am_syntax.specs.Canonical.{AreTokens, IsToken, gap, line, lines, spaced, term_text}
use Rattle.am_syntax.specs.Names.{op_name}
use Rattle.am_syntax.specs.Readers.{Word, Words}
use Rattle.am_syntax.specs.declared.limits.Letter.{Letter}
use Rattle.am_syntax.specs.declared.limits.Letter.TheVariants.{X, F}
use Rattle.am_syntax.specs.Numerals.{is_digit, is_digits}
use Rattle.am_syntax.specs.declared.limits.TermLimits.{TermLimits}
use Rattle.am_syntax.specs.Spelling.{IsScope, Scope, letter_code, scope_of, term_words}
use Rattle.am_syntax.specs.Terms.{term}
use Rattle.am_syntax.specs.Texts.{text_value}
use Rattle.am_syntax.proofs.EachOperator.{each_op}
use Rattle.am_syntax.proofs.TextLaws.{text_read}
use Rattle.am_syntax.proofs.PieceLaws.{same_bytes}
use Rattle.am_syntax.proofs.NumeralLaws.{decimal-is_digits}
use Rattle.am_syntax.proofs.TermWords.{words-Const, words-Field, words-Node}
use Rattle.am_syntax.proofs.TermLaws.{term_law}
use Rattle.am_syntax.proofs.SpacedLaws.{children_fit, const_digits, each_so}

-- ---- the words of a canonical text

abbrev Shape : Word → Type 0
Shape v = IsParenthesis v ⊎ IsTokenWord v

token_alone : (v : Word) → Shape v → words_of v ≡ v ∷ []
token_alone v (inr word) = words_of-word v word
token_alone [] (inl one) = absurd (omega (arith, one.0))
token_alone (b ∷ []) (inl one) =
    let h = (and_parts _ _ one.1).0 in
    words_of-parenthesis b [] (parenthesis_is b h) h
token_alone (b ∷ c ∷ bs) (inl one) = absurd (omega (arith, one.0))

closing_begins : (ws : Words) → prefix_len is_word_byte (spaced (codes ")" ∷ ws)) ≡ 0
closing_begins [] = refl
closing_begins (w ∷ ws) = refl

-- no word goes over what stands between two tokens
tight_seam : (v w : Word) (ws : Words) → (bytes_eq v (codes "(") || bytes_eq w (codes ")")) ≡ true →
    IsSeam v (spaced (w ∷ ws))
tight_seam v w ws h =
    elim (or_cases _ _ h) [
      | inl opens ↦ inl (ap (suffix_len is_word_byte) (same_bytes v (codes "(") opens))
      | inr closes ↦ inr (ap (λ (x : Word). prefix_len is_word_byte (spaced (x ∷ ws))) (same_bytes w (codes ")") closes)
          ∙ closing_begins ws)
    ]

-- words with spaces between them are the words of their text
pub spaced_words : (ws : Words) → AreTokens ws → words_of (spaced ws) ≡ ws
spaced_words [] are = refl
spaced_words (v ∷ []) are = token_alone v are.0.shape
spaced_words (v ∷ w ∷ ws) are =
    let others = spaced_words (w ∷ ws) are.1 in
    let rest = spaced (w ∷ ws) in
    let tight = bytes_eq v (codes "(") || bytes_eq w (codes ")") in
    elim (cases_Bool tight) [
      | inl close ↦
          ap (λ b. words_of (v ++ (cond b [] (32 ∷ []) ++ rest))) close
          ∙ words_of-append v rest (tight_seam v w ws close)
          ∙ ap (λ (us : Words). us ++ words_of rest) (token_alone v are.0.shape) ∙ ap (λ (us : Words). v ∷ us) others
      | inr loose ↦
          ap (λ b. words_of (v ++ (cond b [] (32 ∷ []) ++ rest))) loose
          ∙ words_of-append v (32 ∷ rest) (inr refl)
          ∙ ap (λ (us : Words). us ++ words_of (32 ∷ rest)) (token_alone v are.0.shape)
          ∙ ap (λ (us : Words). v ∷ us) (words_of-space 32 rest refl ∙ others)
    ]

-- and of their line
pub line_words : (ws : Words) → AreTokens ws → words_of (line ws) ≡ ws
unfolding line
line_words ws are =
    words_of-append (spaced ws) (10 ∷ []) (inr refl)
    ∙ ap (λ (us : Words). us ++ words_of (10 ∷ [])) (spaced_words ws are) ∙ append-nil ws

-- the words of lines are those of each line
pub lines_words : (rows : List Words) → AllByRecursion AreTokens rows → words_of (lines rows) ≡ flat_map (λ ws. ws) rows
unfolding line
lines_words [] are = refl
lines_words (ws ∷ rows) are =
    words_of-append (line ws) (lines rows) (inl (suffix_none (spaced ws) 10 refl))
    ∙ ap (λ (us : Words). us ++ words_of (lines rows)) (line_words ws are.0)
    ∙ ap (λ (us : Words). ws ++ us) (lines_words rows are.1)

-- ---- canonical texts have allowed bytes alone

all-append : (test : ℕ → Bool) (xs ys : List ℕ) → list_all test xs ≡ true → list_all test ys ≡ true →
    list_all test (xs ++ ys) ≡ true
all-append test [] ys h k = k
all-append test (x ∷ xs) ys h k = let parts = and_parts _ _ h in and_from _ _ parts.0 (all-append test xs ys parts.1 k)

gap_allowed : (b : Bool) → list_all is_allowed (cond b [] (32 ∷ [])) ≡ true
gap_allowed true = refl
gap_allowed false = refl

spaced_allowed : (ws : Words) → AreTokens ws → list_all is_allowed (spaced ws) ≡ true
spaced_allowed [] are = refl
spaced_allowed (v ∷ []) are = are.0.allowed
spaced_allowed (v ∷ w ∷ ws) are =
    all-append is_allowed v (gap v w ++ spaced (w ∷ ws)) are.0.allowed
    (all-append is_allowed (gap v w) (spaced (w ∷ ws)) (gap_allowed (bytes_eq v (codes "(") || bytes_eq w (codes ")")))
    (spaced_allowed (w ∷ ws) are.1))

lines_allowed : (rows : List Words) → AllByRecursion AreTokens rows → list_all is_allowed (lines rows) ≡ true
unfolding line
lines_allowed [] are = refl
lines_allowed (ws ∷ rows) are =
    all-append is_allowed (line ws) (lines rows) (all-append is_allowed (spaced ws) (10 ∷ []) (spaced_allowed ws are.0)
    refl) (lines_allowed rows are.1)

none_from : (i : ℕ) (text : List ℕ) → list_all is_allowed text ≡ true →
    position_from (λ b. not (is_allowed b)) i text ≡ None
none_from i [] h = refl
none_from i (b ∷ bs) h =
    let parts = and_parts _ _ h in
    ap (λ (t : Bool). cond (not t) (Some i) (position_from (λ b. not (is_allowed b)) (i + 1) bs)) parts.0
    ∙ none_from (i + 1) bs parts.1

none_bad : (text : List ℕ) → list_all is_allowed text ≡ true → bad_byte text ≡ None
none_bad text h = position_from-zero (λ b. not (is_allowed b)) text ∙ none_from 0 text h

-- tokens with spaces between them have no bad byte, on one line or on more
pub spaced_is_text : (ws : Words) → AreTokens ws → bad_byte (spaced ws) ≡ None
spaced_is_text ws are = none_bad (spaced ws) (spaced_allowed ws are)

-- lines of tokens have no bad byte
pub lines_is_text : (rows : List Words) → AllByRecursion AreTokens rows → bad_byte (lines rows) ≡ None
lines_is_text rows are = none_bad (lines rows) (lines_allowed rows are)

-- ---- the words of a term are tokens

digit_word : (b : ℕ) → is_digit b ≡ true → is_word_byte b ≡ true
digit_word b h =
    let parts = and_parts _ _ h in
    let least = leb-true 48 b parts.0 in
    let space : (b == 32) ≡ false = ne_eqb b 32 (λ e. omega (arith, least, e)) in
    let newline : (b == 10) ≡ false = ne_eqb b 10 (λ e. omega (arith, least, e)) in
    let opens : (b == 40) ≡ false = ne_eqb b 40 (λ e. omega (arith, least, e)) in
    let closes : (b == 41) ≡ false = ne_eqb b 41 (λ e. omega (arith, least, e)) in
    rw (space, newline, opens, closes) refl

digit_allowed : (b : ℕ) → is_digit b ≡ true → is_allowed b ≡ true
digit_allowed b h =
    let parts = and_parts _ _ h in
    let least = leb-true 48 b parts.0 in
    let most = leb-true b 57 parts.1 in
    or_right _ _ (and_from _ _ (le-leb 32 b (omega (arith, least))) (le-leb b 126 (omega (arith, most))))

digits_allowed : (bs : List ℕ) → list_all is_digit bs ≡ true → list_all is_allowed bs ≡ true
digits_allowed [] h = refl
digits_allowed (b ∷ bs) h =
    let parts = and_parts _ _ h in and_from _ _ (digit_allowed b parts.0) (digits_allowed bs parts.1)

digits_word : (bs : List ℕ) → list_all is_digit bs ≡ true → list_all is_word_byte bs ≡ true
digits_word [] h = refl
digits_word (b ∷ bs) h = let parts = and_parts _ _ h in and_from _ _ (digit_word b parts.0) (digits_word bs parts.1)

digits_is_word : (v : Word) → is_digits v ≡ true → IsTokenWord v
digits_is_word v h = let parts = and_parts _ _ h in (ltb-true _ _ parts.0, digits_word v parts.1)

-- a row of digits is a token
pub digits_is_token : (v : Word) → is_digits v ≡ true → IsToken v
digits_is_token v h = record { shape = inr (digits_is_word v h); allowed = digits_allowed v (and_parts _ _ h).1 }

-- whether a word is no parenthesis, of bytes that a text may have
abbrev is_plain : Word → Bool
is_plain v = nat_lt 0 (length v) && list_all is_word_byte v && list_all is_allowed v

-- an operator's name is a token
pub op_name_is_token : (op : Op) → IsToken (op_name op)
op_name_is_token op =
    let tests = and_parts _ _ (each_op (λ op. is_plain (op_name op)) (λ _. true) refl op) in
    let word = and_parts _ _ tests.0 in
    record { shape = inr (ltb-true 0 (length (op_name op)) word.0, word.1); allowed = tests.1 }

letter_token : (l : Letter) (bs : List ℕ) → IsToken bs → IsTokenWord bs → IsToken (letter_code l ∷ bs)
letter_token X bs is word = record { shape = inr (omega arith, word.1); allowed = is.allowed }
letter_token F bs is word = record { shape = inr (omega arith, word.1); allowed = is.allowed }

opening_token : IsToken (codes "(")
opening_token = record { shape = inl (refl, refl); allowed = refl }

closing_token : IsToken (codes ")")
closing_token = record { shape = inl (refl, refl); allowed = refl }

-- tokens before tokens
pub tokens-append : (us ws : Words) → AreTokens us → AreTokens ws → AreTokens (us ++ ws)
tokens-append [] ws one two = two
tokens-append (v ∷ us) ws one two = (one.0, tokens-append us ws one.1 two)

-- the words of each of a list are tokens
pub all_tokens : {A : Type 0} (f : A → Words) (xs : List A) → AllByRecursion (λ x. AreTokens (f x)) xs →
    AreTokens (flat_map f xs)
all_tokens f [] h = tt
all_tokens f (x ∷ xs) h = tokens-append (f x) (flat_map f xs) h.0 (all_tokens f xs h.1)

module _ (l : Letter) (scope : Scope) (is : IsScope scope) where
  abbrev Spelled : Term → Type 0
  Spelled t = AreTokens (term_words (letter_code l) t)

  -- the words of a term are tokens
  pub term_is_tokens : (t : Term) → fits scope.width scope.variables t ≡ true → AreTokens (term_words (letter_code l) t)
  term_is_tokens t = by_induction (λ t. fits scope.width scope.variables t ≡ true → Spelled t) (record {
    const =
        λ c fit. subst AreTokens (sym (words-Const (letter_code l) c))
        (digits_is_token (decimal c) (const_digits l scope is c fit), tt);
    field = λ i fit.
        let small : i < 2 ^ 64 =
        omega (arith, is.variables, ltb-true _ _ (sym (fits-Field scope.width scope.variables i) ∙ fit)) in
        let digits = decimal-is_digits i small in
        subst AreTokens (sym (words-Field (letter_code l) i))
        (letter_token l (decimal i) (digits_is_token (decimal i) digits) (digits_is_word (decimal i) digits), tt);
    node = λ op ts h fit.
        let each = each_so Spelled (fits scope.width scope.variables) ts h (children_fit l scope is op ts fit) in
        subst AreTokens (sym (words-Node (letter_code l) op ts)) (
          opening_token,
          (
            op_name_is_token op,
            tokens-append (flat_map (term_words (letter_code l)) ts) (codes ")" ∷ [])
                (all_tokens (term_words (letter_code l)) ts each) (closing_token, tt),
          ),
        );
  }) t

-- a printed term has the term's words, and reads back
pub printed_reads_back : (w : ℕ) (limits : TermLimits) → IsScope (scope_of w limits) → (t : Term) →
    (term w limits).Good t →
    (words_of (term_text (letter_code limits.letter) t) ≡ term_words (letter_code limits.letter) t) ×
    (text_value (term w limits) (term_text (letter_code limits.letter) t) ≡ Ok t)
printed_reads_back w limits is t good =
    let are = term_is_tokens limits.letter (scope_of w limits) is t good.fit in
    let spelled = spaced_words (term_words (letter_code limits.letter) t) are in (
      spelled,
      text_read (term_law w limits is) tt (term_text (letter_code limits.letter) t) t
          (record {
            allowed = spaced_is_text (term_words (letter_code limits.letter) t) are;
            spelled = spelled;
            good = good;
          }),
    )
