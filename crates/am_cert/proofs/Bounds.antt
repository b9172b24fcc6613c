-- A text of fewer than 2^32 bytes has no long list: each item takes some bytes.
use Rattle.std.proofs.Common.{◌≡◌, ℕ, ◌+◌, ◌*◌, ◌^◌, ◌<◌, ◌≤◌, ◌||◌, true, false, eqb, ltb, not, List, [], ◌∷◌, ◌++◌}
use Rattle.std.proofs.Common.{All, bytes_eq, codes, decimal, drop, length, refl, ap, sym, ◌∙◌, subst, inl, inr, arith}
use Rattle.std.specs.Prelude.{sum_by}
use Rattle.std.specs.List.{list_all}
use Rattle.std.proofs.lemmas.Bool.{and_parts, both_ways, cases_Bool, cond-false, eqb-true, false_from_ne_true}
use Rattle.std.proofs.lemmas.Bool.{ltb-true, not-true, or_cases, or_from}
use Rattle.std.proofs.lemmas.List.{drop-map}
use Rattle.std.proofs.lemmas.List.Elements.{All-cons, All-nil}
use Rattle.std.proofs.lemmas.List.Sums.{sum_by-append, sum_by-cons, sum_by-take-drop}
use Rattle.am_chain.specs.declared.chain.Chain.{Chain}
use Rattle.am_chain.specs.declared.chain.Step.{Step}
use Rattle.am_hint.specs.declared.hint.Hint.{Hint}
use Rattle.am_query.specs.declared.outcome.Outcome.{Outcome}
use Rattle.am_query.specs.declared.outcome.Outcome.TheVariants.{Absent, Best, Conflicts, Turns}
use Rattle.am_text.specs.Tokens.{Left, Placed, is_parenthesis, is_space, is_word_byte, text_left, tokens_at}
use Rattle.am_text.specs.Tokens.{word_byte_before, words}
use Rattle.am_syntax.proofs.Laws.{Takes-words, digits_apart, digits_of_any, same_bytes}
use Rattle.am_syntax.specs.Exact.{Takes, words_in}
use Rattle.am_syntax.specs.Numerals.{is_digit}
use Rattle.am_syntax.specs.Pieces.{good_from, keyed, number, spelled_from}
use Rattle.am_syntax.specs.Readers.{Reached, Word, Words}
use Rattle.am_cert.specs.Certificate.{AreBounded, AreCertificateNumbers, AreHints, IsBounded, IsHint}
use Rattle.am_cert.specs.Grammar.{ProblemShape, asked, best, chain, code, hint, hints, log, none, numbers, outcome}
use Rattle.am_cert.specs.Grammar.{result_term, spent_conflicts, spent_turns, step, turns}
use Rattle.am_cert.specs.Texts.{IsShort, word_bytes}
use Rattle.am_cert.proofs.Items.{all_from_good}

-- the bytes of words, and of what parts them
abbrev pub bytes : Words → ℕ
bytes ws = sum_by word_bytes ws

-- ---- the bytes of a text's tokens

-- the bytes of tokens
abbrev token_bytes : List Placed → ℕ
token_bytes tokens = bytes (words_in tokens)

not_this : (b k : ℕ) (bs : List ℕ) → is_parenthesis b ≡ false → is_parenthesis k ≡ true →
    bytes_eq (b ∷ bs) (k ∷ []) ≡ false
not_this b k bs other is = false_from_ne_true (bytes_eq (b ∷ bs) (k ∷ [])) (λ e.
    let same : b ∷ bs ≡ k ∷ [] = same_bytes (b ∷ bs) (k ∷ []) e in
    let head : b ≡ k = cc in
    both_ways (is_parenthesis b) other (ap is_parenthesis head ∙ is))

-- a word that doesn't begin with a parenthesis is counted
counted : (b : ℕ) (bs : List ℕ) → is_parenthesis b ≡ false → word_bytes (b ∷ bs) ≡ length (b ∷ bs) + 1
counted b bs other =
    cond-false (bytes_eq (b ∷ bs) (codes "(") || bytes_eq (b ∷ bs) (codes ")")) 0 (length (b ∷ bs) + 1)
    (or_from (bytes_eq (b ∷ bs) (codes "(")) (bytes_eq (b ∷ bs) (codes ")")) (not_this b 40 bs other refl)
    (not_this b 41 bs other refl))

-- a parenthesis isn't counted
uncounted : (b : ℕ) → is_parenthesis b ≡ true → word_bytes (b ∷ []) ≡ 0
uncounted b is = elim (or_cases (eqb b 40) (eqb b 41) is) [
  | inl opens ↦ subst (λ (n : ℕ). word_bytes (n ∷ []) ≡ 0) (sym (eqb-true b 40 opens)) refl
  | inr closes ↦ subst (λ (n : ℕ). word_bytes (n ∷ []) ≡ 0) (sym (eqb-true b 41 closes)) refl
]

-- a byte of a word is no space and no parenthesis
word_byte_parts : (b : ℕ) → is_word_byte b ≡ true → (is_space b ≡ false) × (is_parenthesis b ≡ false)
word_byte_parts b is =
    let parts = and_parts (not (is_space b)) (not (is_parenthesis b)) is in
    (not-true (is_space b) parts.0, not-true (is_parenthesis b) parts.1)

-- the first token begins with this byte
abbrev BeginsWith : ℕ → List Placed → Type 0
BeginsWith b [] = ⊥
BeginsWith b (t ∷ ts) = (bs : List ℕ) × (t.word ≡ b ∷ bs)

word_begins : (at b : ℕ) (bs : List ℕ) (tokens : List Placed) → BeginsWith b (word_byte_before at b bs tokens)
word_begins at b [] tokens = ([], refl)
word_begins at b (c ∷ cs) [] = ([], refl)
word_begins at b (c ∷ cs) (t ∷ tokens) = elim (cases_Bool (is_word_byte c)) [
  | inl word ↦ rw word (t.word, refl)
  | inr other ↦ rw other ([], refl)
]

tokens_begin : (at b : ℕ) (bs : List ℕ) → is_word_byte b ≡ true → BeginsWith b (tokens_at at (b ∷ bs))
tokens_begin at b bs is =
    let parts = word_byte_parts b is in
    rw (parts.0, parts.1) (word_begins at b bs (tokens_at (at + 1) bs))

-- a byte of a word adds one byte to the word after it, or a word of one byte
joined_bytes : (at b c : ℕ) (cs : List ℕ) (tokens : List Placed) → is_parenthesis b ≡ false →
    (is_word_byte c ≡ true → BeginsWith c tokens) →
    (is_word_byte c ≡ false → token_bytes tokens ≤ length (c ∷ cs)) →
    token_bytes tokens ≤ length (c ∷ cs) + 1 →
    token_bytes (word_byte_before at b (c ∷ cs) tokens) ≤ length (b ∷ c ∷ cs) + 1
joined_bytes at b c cs [] other begins short most =
    omega (arith, sum_by-cons word_bytes (b ∷ []) [], counted b [] other)
joined_bytes at b c cs (t ∷ tokens) other begins short most = elim (cases_Bool (is_word_byte c)) [
  | inl word ↦
      let first = begins word in
      let own : word_bytes t.word ≡ length t.word + 1 =
      subst (λ (v : Word). word_bytes v ≡ length v + 1) (sym first.1)
      (counted c first.0 (word_byte_parts c word).1) in
      let longer = counted b t.word other in
      let before = sum_by-cons word_bytes t.word (words_in tokens) in
      let after = sum_by-cons word_bytes (b ∷ t.word) (words_in tokens) in
      rw word (omega (arith, own, longer, before, after, most))
  | inr apart ↦
      let alone = counted b [] other in
      let after = sum_by-cons word_bytes (b ∷ []) (words_in (t ∷ tokens)) in
      rw apart (omega (arith, alone, after, short apart))
]

-- after a space or a parenthesis there is a byte to spare
other_bytes : (at b : ℕ) (bs : List ℕ) → is_word_byte b ≡ false → token_bytes (tokens_at (at + 1) bs) ≤ length bs + 1 →
    token_bytes (tokens_at at (b ∷ bs)) ≤ length (b ∷ bs)
other_bytes at b bs other most = elim (cases_Bool (is_space b)) [
  | inl space ↦ rw space (omega (arith, most))
  | inr black ↦ elim (cases_Bool (is_parenthesis b)) [
    | inl opens ↦
        let own = uncounted b opens in
        let all = sum_by-cons word_bytes (b ∷ []) (words_in (tokens_at (at + 1) bs)) in
        rw (black, opens) (omega (arith, own, all, most))
    | inr letter ↦ absurd (both_ways (is_word_byte b) other (rw (black, letter) refl))
  ]
]

one_byte : (at b : ℕ) → token_bytes (tokens_at at (b ∷ [])) ≤ 2
one_byte at b = elim (cases_Bool (is_word_byte b)) [
  | inl word ↦
      let parts = word_byte_parts b word in
      rw (parts.0, parts.1) (omega (arith, sum_by-cons word_bytes (b ∷ []) [], counted b [] parts.1))
  | inr other ↦ omega (arith, other_bytes at b [] other (omega arith))
]

more_bytes : (at b c : ℕ) (cs : List ℕ) → token_bytes (tokens_at (at + 1) (c ∷ cs)) ≤ length (c ∷ cs) + 1 →
    token_bytes (tokens_at ((at + 1) + 1) cs) ≤ length cs + 1 →
    token_bytes (tokens_at at (b ∷ c ∷ cs)) ≤ length (b ∷ c ∷ cs) + 1
more_bytes at b c cs most later = elim (cases_Bool (is_word_byte b)) [
  | inl word ↦
      let parts = word_byte_parts b word in
      rw (parts.0, parts.1)
      (joined_bytes at b c cs (tokens_at (at + 1) (c ∷ cs)) parts.1 (tokens_begin (at + 1) c cs)
      (λ apart. other_bytes (at + 1) c cs apart later) most)
  | inr other ↦ omega (arith, other_bytes at b (c ∷ cs) other most)
]

-- the words of a text, each with a byte that parts it from the next one, take no more bytes than the text and one more
tokens_bytes : (at : ℕ) (bs : List ℕ) → token_bytes (tokens_at at bs) ≤ length bs + 1
tokens_bytes at [] = omega arith
tokens_bytes at (b ∷ []) = omega (arith, one_byte at b)
tokens_bytes at (b ∷ c ∷ cs) =
    more_bytes at b c cs (tokens_bytes (at + 1) (c ∷ cs)) (tokens_bytes ((at + 1) + 1) cs)

-- a text of fewer than 2^32 bytes is short
pub text_short : (text : List ℕ) → length text < 2 ^ 32 → IsShort (text_left text)
text_short text short = omega (arith, short, tokens_bytes 0 text)

-- what was reached is no longer
pub reached_short : (s t : Left) → Reached s t → IsShort s → IsShort t
reached_short s t to short =
    let own = drop-map (λ (p : Placed). p.word) to.taken s.tokens in
    let rest : words t ≡ drop to.taken (words s) = ap words_in to.rest ∙ sym own in
    omega (arith, short, ap bytes rest, sum_by-take-drop word_bytes (words s) to.taken)

-- what is left after words is no longer
pub left_short : (s : Left) (ws : Words) (t : Left) → Takes s ws t → IsShort s → IsShort t
left_short s ws t takes short =
    omega (arith, short, ap bytes (Takes-words s ws t takes), sum_by-append word_bytes ws (words t))

-- the words that were taken are short
pub taken_short : (s : Left) (ws : Words) (t : Left) → Takes s ws t → IsShort s → bytes ws ≤ 2 ^ 32
taken_short s ws t takes short =
    omega (arith, short, ap bytes (Takes-words s ws t takes), sum_by-append word_bytes ws (words t))

-- ---- items take some bytes

-- a number takes two bytes at least
number_bytes : (n : ℕ) → 2 ≤ word_bytes (decimal n)
number_bytes n =
    let v = decimal n in
    let digits = digits_of_any n in
    let own = cond-false (bytes_eq v (codes "(") || bytes_eq v (codes ")")) 0 (length v + 1)
    (or_from (bytes_eq v (codes "(")) (bytes_eq v (codes ")")) (digits_apart v (codes "(") digits refl)
    (digits_apart v (codes ")") digits refl)) in
    omega (arith, own, ltb-true 0 (length v) (and_parts (ltb 0 (length v)) (list_all is_digit v) digits).0)

-- a word before others
pub before_bytes : (v : Word) (ws : Words) → bytes (v ∷ ws) ≡ word_bytes v + bytes ws
before_bytes v ws = sum_by-cons word_bytes v ws

-- words before others
pub both_bytes : (one two : Words) → bytes (one ++ two) ≡ bytes one + bytes two
both_bytes one two = sum_by-append word_bytes one two

-- a word and two or four rows of words
pub two_bytes : (v : Word) (one two : Words) → bytes (v ∷ (one ++ two)) ≡ word_bytes v + bytes one + bytes two
two_bytes v one two = omega (arith, before_bytes v (one ++ two), both_bytes one two)

-- a word and four lists of words take their bytes together
pub four_bytes : (v : Word) (one two three four : Words) →
    bytes (v ∷ (one ++ (two ++ (three ++ four)))) ≡ word_bytes v + bytes one + bytes two + bytes three + bytes four
four_bytes v one two three four =
    omega (
      arith,
      before_bytes v (one ++ (two ++ (three ++ four))),
      both_bytes one (two ++ (three ++ four)),
      both_bytes two (three ++ four),
      both_bytes three four,
    )

steps_bytes : (seen steps : List Step) → 4 * length steps ≤ bytes (spelled_from (λ _. step) seen steps)
unfolding number
steps_bytes seen [] = omega arith
steps_bytes seen (x ∷ steps) =
    let rest = spelled_from (λ _. step) (seen ++ x ∷ []) steps in
    omega (
      arith,
      before_bytes (decimal x.variable) (decimal x.clause ∷ rest),
      before_bytes (decimal x.clause) rest,
      number_bytes x.variable,
      number_bytes x.clause,
      steps_bytes (seen ++ x ∷ []) steps,
    )

key_bytes : word_bytes (codes "chain") ≡ 6
key_bytes = refl

chain_bytes : (c : Chain) → 8 + 4 * length c.steps ≤ bytes (chain.spell c)
unfolding chain number
chain_bytes c =
    let steps = spelled_from (λ _. step) [] c.steps in
    omega (
      arith,
      key_bytes,
      before_bytes (codes "chain") (decimal c.first ∷ steps),
      before_bytes (decimal c.first) steps,
      number_bytes c.first,
      steps_bytes [] c.steps,
    )

chains_bytes : (seen chains : List Chain) → 8 * length chains ≤ bytes (spelled_from (λ _. chain) seen chains)
chains_bytes seen [] = omega arith
chains_bytes seen (c ∷ chains) =
    omega (
      arith,
      both_bytes (chain.spell c) (spelled_from (λ _. chain) (seen ++ c ∷ []) chains),
      chain_bytes c,
      chains_bytes (seen ++ c ∷ []) chains,
    )

abbrev HasFew : ℕ → Chain → Type 0
HasFew most c = length c.steps < most

-- where the bytes are few, so are the steps of each chain
chains_steps : (most : ℕ) (seen chains : List Chain) → bytes (spelled_from (λ _. chain) seen chains) ≤ 4 * most →
    All (HasFew most) chains
chains_steps most seen [] h = All-nil (HasFew most)
chains_steps most seen (c ∷ chains) h =
    let both = both_bytes (chain.spell c) (spelled_from (λ _. chain) (seen ++ c ∷ []) chains) in
    All-cons (HasFew most) c chains (omega (arith, h, both, chain_bytes c))
    (chains_steps most (seen ++ c ∷ []) chains (omega (arith, h, both)))

-- the items of a log after its name
abbrev after_name : Word → Words → Words
after_name name items = codes "log" ∷ name ∷ items

name_bytes : (name : Word) (items : Words) → bytes items ≤ bytes (after_name name items)
name_bytes name items =
    omega (arith, before_bytes (codes "log") (name ∷ items), before_bytes name items)

log_bounded : (name : Word) (chains : List Chain) → bytes ((log name).spell chains) ≤ 2 ^ 32 → IsBounded chains
unfolding log
log_bounded name chains h =
    let behind = name_bytes name (spelled_from (λ _. chain) [] chains) in record {
      chains = omega (arith, chains_bytes [] chains, h, behind);
      steps = chains_steps (2 ^ 30) [] chains (omega (arith, h, behind));
    }

-- ---- hints take some bytes

codes_bytes : (seen ns : List ℕ) → 2 * length ns ≤ bytes (spelled_from (λ _. code) seen ns)
unfolding number
codes_bytes seen [] = omega arith
codes_bytes seen (n ∷ ns) =
    omega (
      arith,
      before_bytes (decimal n) (spelled_from (λ _. code) (seen ++ n ∷ []) ns),
      number_bytes n,
      codes_bytes (seen ++ n ∷ []) ns,
    )

clause_bytes : word_bytes (codes "clause") ≡ 7
clause_bytes = refl

by_bytes : word_bytes (codes "by") ≡ 3
by_bytes = refl

hint_bytes : (h : Hint) → 10 + 2 * length h.clause + 2 * length h.by ≤ bytes (hint.spell h)
unfolding hint
hint_bytes h =
    let clause = numbers.spell h.clause in
    let by = numbers.spell h.by in
    omega (
      arith,
      clause_bytes,
      by_bytes,
      before_bytes (codes "clause") (clause ++ (codes "by" ∷ by)),
      both_bytes clause (codes "by" ∷ by),
      before_bytes (codes "by") by,
      codes_bytes [] h.clause,
      codes_bytes [] h.by,
    )

hints_bytes : (seen hs : List Hint) → 10 * length hs ≤ bytes (spelled_from (λ _. hint) seen hs)
hints_bytes seen [] = omega arith
hints_bytes seen (h ∷ hs) =
    omega (
      arith,
      both_bytes (hint.spell h) (spelled_from (λ _. hint) (seen ++ h ∷ []) hs),
      hint_bytes h,
      hints_bytes (seen ++ h ∷ []) hs,
    )

small_code : (n : ℕ) → code.Good n → n < 2 ^ 32
unfolding number
small_code n good = omega (arith, good.1)

numbers_bounded : (ns : List ℕ) → numbers.Good ns → length ns < 2 ^ 31 → AreCertificateNumbers ns
numbers_bounded ns good few =
    record { few = few; small = all_from_good (λ _. code) (λ n. n < 2 ^ 32) (λ _ n h. small_code n h) [] ns good }

hint_bounded : (h : Hint) → hint.Good h → bytes (hint.spell h) ≤ 2 ^ 32 → IsHint h
unfolding hint
hint_bounded h good short = record {
  codes = numbers_bounded h.clause good.0 (omega (arith, hint_bytes h, short));
  places = numbers_bounded h.by good.1 (omega (arith, hint_bytes h, short));
}

all_bounded : (seen hs : List Hint) → good_from (λ _. hint) seen hs →
    bytes (spelled_from (λ _. hint) seen hs) ≤ 2 ^ 32 → All IsHint hs
all_bounded seen [] good short = All-nil IsHint
all_bounded seen (h ∷ hs) good short =
    let both = both_bytes (hint.spell h) (spelled_from (λ _. hint) (seen ++ h ∷ []) hs) in
    All-cons IsHint h hs (hint_bounded h good.0 (omega (arith, short, both)))
    (all_bounded (seen ++ h ∷ []) hs good.1 (omega (arith, short, both)))

-- hints of few bytes aren't too long
pub hints_bounded : (name : Word) (hs : List Hint) → (hints name).Good hs → bytes ((hints name).spell hs) ≤ 2 ^ 32 →
    AreHints hs
unfolding hints
hints_bounded name hs good short =
    let behind = name_bytes name (spelled_from (λ _. hint) [] hs) in record {
      few = omega (arith, hints_bytes [] hs, short, behind);
      each = all_bounded [] hs good (omega (arith, short, behind));
    }

-- ---- the answer

-- logs of few bytes aren't too long
pub outcome_bounded : (s : ProblemShape) (o : Outcome) → bytes ((outcome s).spell o) ≤ 2 ^ 32 → AreBounded o
unfolding outcome best none spent_turns spent_conflicts
outcome_bounded s (Best t trace sound_log best_log) h =
    let lines = spelled_from (λ _. keyed (codes "term") (result_term s)) [] t in
    let own = (turns s s.turns).spell trace in
    let sound = (log (codes "sound")).spell sound_log in
    let closest = (log (codes "best")).spell best_log in
    let all = four_bytes (codes "best") lines own sound closest in (
      log_bounded (codes "sound") sound_log (omega (arith, h, all)),
      log_bounded (codes "best") best_log (omega (arith, h, all)),
    )
outcome_bounded s (Absent trace fit_log) h =
    let own = (turns s s.turns).spell trace in
    let fit = (log (codes "fit")).spell fit_log in
    log_bounded (codes "fit") fit_log (omega (arith, h, two_bytes (codes "none") own fit))
outcome_bounded s (Turns trace) h = tt
outcome_bounded s (Conflicts trace question spent_log) h =
    let own = (turns s s.turns).spell trace in
    let query = (asked s trace).spell question in
    let spent = (log (codes "spent")).spell spent_log in
    let zero = before_bytes (codes "conflicts") (own ++ (query ++ spent)) in
    let one = both_bytes own (query ++ spent) in
    log_bounded (codes "spent") spent_log (omega (arith, h, zero, one, both_bytes query spent))
