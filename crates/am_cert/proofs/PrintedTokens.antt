-- The words of a certificate's rows are tokens.
use Rattle.std.proofs.Common.{◌≡◌, ℕ, true, List, [], ◌∷◌, ◌++◌, All, codes, decimal, flat_map, map, refl}
use Rattle.std.specs.List.{AllByRecursion}
use Rattle.std.proofs.lemmas.List.Elements.{All-head, All-tail}
use Rattle.am_bv.specs.declared.term.Term.{Term}
use Rattle.am_chain.specs.declared.chain.Chain.{Chain}
use Rattle.am_chain.specs.declared.chain.Step.{Step}
use Rattle.am_hint.specs.declared.hint.Hint.{Hint}
use Rattle.am_problem.proofs.Laws.{both_tokens, is_plain, lines_of_formed, plain_token, rows_tokens}
use Rattle.am_problem.specs.Printing.{problem_rows}
use Rattle.am_problem.specs.Texts.{named}
use Rattle.am_problem.specs.declared.examples.Positive.{Positive}
use Rattle.am_query.specs.declared.asked.Asked.{Asked}
use Rattle.am_query.specs.declared.asked.Asked.TheVariants.{Keep, Precise, Sound, Start}
use Rattle.am_query.specs.declared.outcome.Outcome.{Outcome}
use Rattle.am_query.specs.declared.outcome.Outcome.TheVariants.{Absent, Best, Conflicts, Turns}
use Rattle.am_query.specs.declared.turn.Turn.{Turn}
use Rattle.am_query.specs.declared.turn.Turn.TheVariants.{Negative as NegativeTurn, Positive as PositiveTurn}
use Rattle.am_syntax.proofs.Laws.{digits_is_token, digits_of_any, term_is_tokens, tokens-append}
use Rattle.am_syntax.specs.Canonical.{AreTokens, IsToken}
use Rattle.am_syntax.specs.Readers.{Word, Words}
use Rattle.am_syntax.specs.Spelling.{FitsSomewhere, letter_code, term_words}
use Rattle.am_syntax.specs.declared.limits.Letter.TheVariants.{F}
use Rattle.am_cert.specs.Certificate.{Certificate, IsCertificate}
use Rattle.am_cert.specs.Grammar.{version_word}
use Rattle.am_cert.specs.Printing.{answer_row, answer_rows, asked_words, certificate_rows, chain_row, example_words}
use Rattle.am_cert.specs.Printing.{hint_row, hinted_rows, hints_rows, log_rows, outcome_rows, step_words, term_row}
use Rattle.am_cert.specs.Printing.{terms_words, turn_row}
use Rattle.am_cert.specs.declared.version.Version.{Version}
use Rattle.am_cert.specs.declared.version.Version.TheVariants.{Four, One, Three, Two}
use Rattle.am_cert.specs.declared.answer.Proofs.{Proofs}
use Rattle.am_cert.specs.declared.answer.Proofs.TheVariants.{Chains, Hinted}
use Rattle.am_cert.specs.inside.Printable.{AreTerms, IsPrintable, IsPrintableAsked, IsPrintableTurn}
use Rattle.am_cert.proofs.Fitting.{certificates_are_printable}

-- ---- the words of the rows are tokens

numeral : (n : ℕ) → IsToken (decimal n)
numeral n = digits_is_token (decimal n) (digits_of_any n)

key : (v : Word) → is_plain v ≡ true → IsToken v
key v plain = plain_token v plain

numerals : (ns : List ℕ) → AreTokens (map decimal ns)
numerals [] = tt
numerals (n ∷ ns) = (numeral n, numerals ns)

term_tokens : (t : Term) → FitsSomewhere t → AreTokens (term_words (letter_code F) t)
term_tokens t fits = term_is_tokens F fits.scope fits.is t fits.fit

terms_tokens : (ts : List Term) → AreTerms ts → AreTokens (terms_words ts)
terms_tokens [] fit = tt
terms_tokens (t ∷ ts) fit =
    tokens-append (term_words (letter_code F) t) (terms_words ts)
    (term_tokens t (All-head FitsSomewhere t ts fit)) (terms_tokens ts (All-tail FitsSomewhere t ts fit))

-- numbers, and a key word and other words after them
numbers_then : (ns : List ℕ) (v : Word) (ws : Words) → is_plain v ≡ true → AreTokens ws →
    AreTokens (map decimal ns ++ (v ∷ ws))
numbers_then ns v ws plain are = tokens-append (map decimal ns) (v ∷ ws) (numerals ns) (key v plain, are)

example_tokens : (t : List Term) (e : Positive) (ns : List ℕ) → AreTerms t →
    AreTokens (example_words t e (map decimal ns))
example_tokens t e ns fit =
    let kept = map decimal ns in
    let words = map decimal e.words ++ (codes "kept" ∷ kept) in
    tokens-append (terms_words t) (codes "in" ∷ (map decimal e.inputs ++ (codes "word" ∷ words)))
    (terms_tokens t fit) (
      key (codes "in") refl,
      numbers_then e.inputs (codes "word") words refl (numbers_then e.words (codes "kept") kept refl (numerals ns)),
    )

turn_tokens : (t : Turn) → IsPrintableTurn t → AreTokens (turn_row t)
turn_tokens (PositiveTurn t e kept) fit = (key (codes "positive") refl, example_tokens t e kept fit)
turn_tokens (NegativeTurn t e) fit = (
  key (codes "negative") refl,
  tokens-append (terms_words t) (codes "in" ∷ (map decimal e.inputs ++ (codes "out" ∷ decimal e.word ∷ [])))
      (terms_tokens t fit)
      (key (codes "in") refl, numbers_then e.inputs (codes "out") (decimal e.word ∷ []) refl (numeral e.word, tt)),
)

asked_tokens : (a : Asked) → IsPrintableAsked a → AreTokens (asked_words a)
asked_tokens Start fit = (key (codes "start") refl, tt)
asked_tokens (Keep t e places) fit = (key (codes "keep") refl, example_tokens t e places fit)
asked_tokens (Sound t) fit = (key (codes "sound") refl, terms_tokens t fit)
asked_tokens (Precise t) fit = (key (codes "precise") refl, terms_tokens t fit)

steps_tokens : (steps : List Step) → AreTokens (flat_map step_words steps)
steps_tokens [] = tt
steps_tokens (step ∷ steps) = (numeral step.variable, (numeral step.clause, steps_tokens steps))

chains_tokens : (chains : List Chain) → AllByRecursion AreTokens (map chain_row chains)
chains_tokens [] = tt
chains_tokens (c ∷ chains) =
    ((key (codes "chain") refl, (numeral c.first, steps_tokens c.steps)), chains_tokens chains)

log_tokens : (name : Word) (chains : List Chain) → is_plain name ≡ true →
    AllByRecursion AreTokens (log_rows name chains)
log_tokens name chains plain = ((key (codes "log") refl, (key name plain, tt)), chains_tokens chains)

term_rows_tokens : (ts : List Term) → AreTerms ts → AllByRecursion AreTokens (map term_row ts)
term_rows_tokens [] fit = tt
term_rows_tokens (t ∷ ts) fit = (
  (key (codes "term") refl, term_tokens t (All-head FitsSomewhere t ts fit)),
  term_rows_tokens ts (All-tail FitsSomewhere t ts fit),
)

trace_tokens : (trace : List Turn) → All IsPrintableTurn trace → AllByRecursion AreTokens (map turn_row trace)
trace_tokens [] fit = tt
trace_tokens (t ∷ trace) fit =
    (turn_tokens t (All-head IsPrintableTurn t trace fit), trace_tokens trace (All-tail IsPrintableTurn t trace fit))

answer_tokens : (name : Word) → is_plain name ≡ true → AreTokens (answer_row name)
answer_tokens name plain = (key (codes "answer") refl, (key name plain, tt))

outcome_tokens : (o : Outcome) → IsPrintable o → AllByRecursion AreTokens (outcome_rows o)
outcome_tokens (Best t trace sound_log best_log) fit =
    let sound = log_rows (codes "sound") sound_log in
    let best = log_rows (codes "best") best_log in (
      answer_tokens (codes "best") refl,
      both_tokens (map term_row t) (map turn_row trace ++ (sound ++ best)) (term_rows_tokens t fit.0)
          (both_tokens (map turn_row trace) (sound ++ best) (trace_tokens trace fit.1)
          (both_tokens sound best (log_tokens (codes "sound") sound_log refl)
          (log_tokens (codes "best") best_log refl))),
    )
outcome_tokens (Absent trace log) fit = (
  answer_tokens (codes "none") refl,
  both_tokens (map turn_row trace) (log_rows (codes "fit") log) (trace_tokens trace fit)
      (log_tokens (codes "fit") log refl),
)
outcome_tokens (Turns trace) fit = (answer_tokens (codes "turns") refl, trace_tokens trace fit)
outcome_tokens (Conflicts trace asked log) fit =
    let query = codes "query" ∷ asked_words asked in (
      answer_tokens (codes "conflicts") refl,
      both_tokens (map turn_row trace) (query ∷ log_rows (codes "spent") log) (trace_tokens trace fit.0)
          ((key (codes "query") refl, asked_tokens asked fit.1), log_tokens (codes "spent") log refl),
    )

-- ---- .. with hints

hint_tokens : (h : Hint) → AreTokens (hint_row h)
hint_tokens h =
    (key (codes "clause") refl, numbers_then h.clause (codes "by") (map decimal h.by) refl (numerals h.by))

each_hint_tokens : (hs : List Hint) → AllByRecursion AreTokens (map hint_row hs)
each_hint_tokens [] = tt
each_hint_tokens (h ∷ hs) = (hint_tokens h, each_hint_tokens hs)

hints_tokens : (name : Word) (hs : List Hint) → is_plain name ≡ true → AllByRecursion AreTokens (hints_rows name hs)
hints_tokens name hs plain = ((key (codes "log") refl, (key name plain, tt)), each_hint_tokens hs)

hinted_tokens : (o : Outcome) (first second : List Hint) → IsPrintable o →
    AllByRecursion AreTokens (hinted_rows o first second)
hinted_tokens (Best t trace sound_log best_log) first second fit =
    let sound = hints_rows (codes "sound") first in
    let best = hints_rows (codes "best") second in (
      answer_tokens (codes "best") refl,
      both_tokens (map term_row t) (map turn_row trace ++ (sound ++ best)) (term_rows_tokens t fit.0)
          (both_tokens (map turn_row trace) (sound ++ best) (trace_tokens trace fit.1)
          (both_tokens sound best (hints_tokens (codes "sound") first refl)
          (hints_tokens (codes "best") second refl))),
    )
hinted_tokens (Absent trace log) first second fit = (
  answer_tokens (codes "none") refl,
  both_tokens (map turn_row trace) (hints_rows (codes "fit") first) (trace_tokens trace fit)
      (hints_tokens (codes "fit") first refl),
)
hinted_tokens (Turns trace) first second fit = tt
hinted_tokens (Conflicts trace asked log) first second fit = tt

proved_tokens : (o : Outcome) (proofs : Proofs) → IsPrintable o → AllByRecursion AreTokens (answer_rows o proofs)
proved_tokens o Chains fit = outcome_tokens o fit
proved_tokens o (Hinted first second) fit = hinted_tokens o first second fit

version_plain : (v : Version) → is_plain (version_word v) ≡ true
version_plain One = refl
version_plain Two = refl
version_plain Three = refl
version_plain Four = refl

-- all words of a certificate's rows are tokens
pub rows_are_tokens : (c : Certificate) → IsCertificate c → AllByRecursion AreTokens (certificate_rows c)
rows_are_tokens c is =
    let lines = named c.problem in
    let end : List Words = (codes "end" ∷ []) ∷ [] in
    let last : AllByRecursion AreTokens end = ((key (codes "end") refl, tt), tt) in (
      (key (codes "certificate") refl, (key (version_word c.version) (version_plain c.version), tt)),
      both_tokens (problem_rows lines) (answer_rows c.outcome c.proofs ++ end)
          (rows_tokens lines (lines_of_formed c.problem is.problem.formed))
          (both_tokens (answer_rows c.outcome c.proofs) end
          (proved_tokens c.outcome c.proofs (certificates_are_printable c is)) last),
    )
