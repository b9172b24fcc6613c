-- The canonical text of a certificate: a row of words for each line.
use Rattle.std.specs.Prelude.{ℕ, ◌≡◌, ◌≤◌, ◌+◌, false, List, [], ◌∷◌, ◌++◌, codes, decimal, flat_map, length, map}
use Rattle.am_bv.specs.declared.term.Term.{Term}
use Rattle.am_chain.specs.declared.chain.Chain.{Chain}
use Rattle.am_chain.specs.declared.chain.Step.{Step}
use Rattle.am_hint.specs.declared.hint.Hint.{Hint}
use Rattle.am_problem.specs.Limits.{IsProblem}
use Rattle.am_problem.specs.Printing.{problem_rows}
use Rattle.am_problem.specs.Problem.{Problem}
use Rattle.am_problem.specs.Texts.{named}
use Rattle.am_problem.specs.declared.examples.Positive.{Positive}
use Rattle.am_query.specs.Answers.{IsRefuted, IsSpentOn}
use Rattle.am_query.specs.Turns.{IsAsked, IsTrace, after_trace, query_of}
use Rattle.am_query.specs.Transformers.{IsTransformerOf}
use Rattle.am_query.specs.declared.asked.Asked.{Asked}
use Rattle.am_query.specs.declared.asked.Asked.TheVariants.{Keep, Precise as PreciseAsked, Sound as SoundAsked, Start}
use Rattle.am_query.specs.declared.outcome.Outcome.{Outcome}
use Rattle.am_query.specs.declared.outcome.Outcome.TheVariants.{Absent, Best, Conflicts, Turns}
use Rattle.am_query.specs.declared.query.Query.TheVariants.{Fit, Precise, Sound}
use Rattle.am_query.specs.declared.turn.Turn.{Turn}
use Rattle.am_query.specs.declared.turn.Turn.TheVariants.{Negative as NegativeTurn, Positive as PositiveTurn}
use Rattle.am_syntax.specs.Canonical.{lines}
use Rattle.am_syntax.specs.Readers.{Word, Words}
use Rattle.am_syntax.specs.Spelling.{letter_code, term_words}
use Rattle.am_syntax.specs.declared.limits.Letter.TheVariants.{F}
use Rattle.am_cert.specs.Certificate.{Certificate, IsCertificate}
use Rattle.am_cert.specs.Grammar.{version_word}
use Rattle.am_cert.specs.Texts.{ReadsAsCertificate}
use Rattle.am_cert.specs.Versions.{has_hints}
use Rattle.am_cert.specs.declared.answer.Proofs.{Proofs}
use Rattle.am_cert.specs.declared.answer.Proofs.TheVariants.{Chains, Hinted}
use Rattle.am_cert.specs.declared.version.Version.{Version}

-- ---- rows

-- the words of terms
abbrev pub terms_words : List Term → Words
terms_words terms = flat_map (term_words (letter_code F)) terms

-- terms, the fields of all inputs, a word for each input, and places
abbrev pub example_words : List Term → Positive → List Word → Words
example_words t e kept =
    terms_words t ++
    (codes "in" ∷ (map decimal e.inputs ++
    (codes "word" ∷ (map decimal e.words ++
    (codes "kept" ∷ kept)))))

-- the line of a turn
abbrev pub turn_row : Turn → Words
turn_row (PositiveTurn t e kept) = codes "positive" ∷ example_words t e (map decimal kept)
turn_row (NegativeTurn t e) =
    codes "negative" ∷ (terms_words t ++ (codes "in" ∷ (map decimal e.inputs ++ (codes "out" ∷ decimal e.word ∷ []))))

-- the words of what was asked
abbrev pub asked_words : Asked → Words
asked_words Start = codes "start" ∷ []
asked_words (Keep t e places) = codes "keep" ∷ example_words t e (map decimal places)
asked_words (SoundAsked t) = codes "sound" ∷ terms_words t
asked_words (PreciseAsked t) = codes "precise" ∷ terms_words t

-- the two numbers of a step
abbrev pub step_words : Step → Words
step_words step = decimal step.variable ∷ decimal step.clause ∷ []

-- the line of a chain
abbrev pub chain_row : Chain → Words
chain_row chain = codes "chain" ∷ decimal chain.first ∷ flat_map step_words chain.steps

-- the line of a log, and one for each of its chains
abbrev pub log_rows : Word → List Chain → List Words
log_rows name log = (codes "log" ∷ name ∷ []) ∷ map chain_row log

-- the line of a term
abbrev pub term_row : Term → Words
term_row t = codes "term" ∷ term_words (letter_code F) t

-- the line of an answer's kind
abbrev pub answer_row : Word → Words
answer_row name = codes "answer" ∷ name ∷ []

-- the lines of an answer with chains
abbrev pub outcome_rows : Outcome → List Words
outcome_rows (Best t trace sound_log best_log) =
    answer_row (codes "best") ∷
    (map term_row t ++ (map turn_row trace ++ (log_rows (codes "sound") sound_log ++ log_rows (codes "best") best_log)))
outcome_rows (Absent trace log) = answer_row (codes "none") ∷ (map turn_row trace ++ log_rows (codes "fit") log)
outcome_rows (Turns trace) = answer_row (codes "turns") ∷ map turn_row trace
outcome_rows (Conflicts trace asked log) =
    answer_row (codes "conflicts") ∷
    (map turn_row trace ++ ((codes "query" ∷ asked_words asked) ∷ log_rows (codes "spent") log))

-- the line of a hint
abbrev pub hint_row : Hint → Words
hint_row hint = codes "clause" ∷ (map decimal hint.clause ++ (codes "by" ∷ map decimal hint.by))

-- the line of a log, and one for each hint in the place of its chains
abbrev pub hints_rows : Word → List Hint → List Words
hints_rows name hints = (codes "log" ∷ name ∷ []) ∷ map hint_row hints

-- the lines of an answer with hints, which is a best transformer or that none is sound
abbrev pub hinted_rows : Outcome → List Hint → List Hint → List Words
hinted_rows (Best t trace sound_log best_log) first second =
    answer_row (codes "best") ∷
    (map term_row t ++ (map turn_row trace ++ (hints_rows (codes "sound") first ++ hints_rows (codes "best") second)))
hinted_rows (Absent trace log) first second =
    answer_row (codes "none") ∷ (map turn_row trace ++ hints_rows (codes "fit") first)
hinted_rows (Turns trace) first second = []
hinted_rows (Conflicts trace asked log) first second = []

-- the lines of an answer
abbrev pub answer_rows : Outcome → Proofs → List Words
answer_rows o Chains = outcome_rows o
answer_rows o (Hinted first second) = hinted_rows o first second

-- all lines, in order
abbrev pub certificate_rows : Certificate → List Words
certificate_rows c =
    (codes "certificate" ∷ version_word c.version ∷ []) ∷
    (problem_rows (named c.problem) ++ (answer_rows c.outcome c.proofs ++ (codes "end" ∷ []) ∷ []))

-- the text of a certificate
unfoldable pub certificate_text : Certificate → List ℕ
certificate_text c = lines (certificate_rows c)

-- what was printed reads back
abbrev pub CanonicalCertificatesAreRead : Type 0
CanonicalCertificatesAreRead = (c : Certificate) → IsCertificate c → ReadsAsCertificate (certificate_text c) c

-- ---- which outcomes can be written

-- a valid trace of no more turns than are allowed, or of one more where they are spent; transformers; and logs that are
-- refutations over the formulas of their queries, of no more chains than are allowed, or exactly as many valid chains
abbrev pub IsWritable : Problem → Outcome → Type 0
IsWritable p (Best t trace sound_log best_log) =
    IsTransformerOf p t × IsTrace p trace × (length trace ≤ p.turns)
    × IsRefuted p (Sound t) p.conflicts sound_log
    × (let s = after_trace trace in IsRefuted p (Precise t s.positives s.negatives) p.conflicts best_log)
IsWritable p (Absent trace log) =
    IsTrace p trace × (length trace ≤ p.turns)
    × IsRefuted p (Fit (after_trace trace).positives []) p.conflicts log
IsWritable p (Turns trace) = IsTrace p trace × (length trace ≡ p.turns + 1)
IsWritable p (Conflicts trace asked log) =
    IsTrace p trace × (length trace ≤ p.turns) × IsAsked p trace asked
    × IsSpentOn p (query_of (after_trace trace) asked) p.conflicts log

-- each such outcome makes a certificate with its problem, in either version with chains
abbrev pub OutcomesCanBeWritten : Type 0
OutcomesCanBeWritten = (v : Version) (p : Problem) (o : Outcome) → has_hints v ≡ false → IsProblem p → IsWritable p o →
    IsCertificate (record { version = v; problem = p; outcome = o; proofs = Chains })
