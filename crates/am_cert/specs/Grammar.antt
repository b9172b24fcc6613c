-- The grammar of a certificate's text after its problem, line by line.
use Rattle.std.specs.Prelude.{ℕ, ◌+◌, ◌-◌, ◌*◌, ◌^◌, Bool, false, true, ◌||◌, nat_lt, List, [], ◌∷◌}
use Rattle.std.specs.Prelude.{length, min, Option, None, Some, Result, Ok, Err, bytes_eq, codes, if◌then◌else◌, ◌⊎◌}
use Rattle.std.proofs.Common.{inl, inr}
use Rattle.am_bv.specs.declared.term.Term.{Term}
use Rattle.am_chain.specs.declared.chain.Chain.{Chain}
use Rattle.am_chain.specs.declared.chain.Step.{Step}
use Rattle.am_hint.specs.declared.hint.Hint.{Hint}
use Rattle.am_problem.specs.Kinds.{fields_of}
use Rattle.am_problem.specs.Lines.{Lines}
use Rattle.am_query.specs.declared.asked.Asked.{Asked}
use Rattle.am_query.specs.declared.asked.Asked.TheVariants.{Keep, Precise, Sound, Start}
use Rattle.am_query.specs.declared.outcome.Outcome.{Outcome}
use Rattle.am_query.specs.declared.outcome.Outcome.TheVariants.{Absent, Best, Conflicts, Turns}
use Rattle.am_query.specs.declared.turn.Turn.{Turn}
use Rattle.am_query.specs.declared.turn.Turn.TheVariants.{Negative as NegativeTurn, Positive as PositiveTurn}
use Rattle.am_syntax.specs.Numerals.{is_digits}
use Rattle.am_syntax.specs.Pieces.{◌▹◌, Piece, below, choice, is_number_next, key, keyed, next_is, number, one_more}
use Rattle.am_syntax.specs.Pieces.{repeat, seen_as, times, token}
use Rattle.am_syntax.specs.Readers.{◌>>=◌, Word, Words, done}
use Rattle.am_syntax.specs.Terms.{term}
use Rattle.am_syntax.specs.declared.limits.Letter.TheVariants.{F}
use Rattle.am_syntax.specs.declared.limits.TermLimits.{TermLimits}
use Rattle.am_syntax.specs.declared.refusal.Cause.{Cause}
use Rattle.am_syntax.specs.declared.refusal.Cause.TheVariants.{Number, Syntax}
use Rattle.am_cert.specs.declared.answer.Answer.{Answer}
use Rattle.am_cert.specs.declared.answer.Proofs.{Proofs}
use Rattle.am_cert.specs.declared.answer.Proofs.TheVariants.{Chains, Hinted}
use Rattle.am_cert.specs.declared.version.Version.{Version}
use Rattle.am_cert.specs.declared.version.Version.TheVariants.{Four, One, Three, Two}

-- ---- certificate VERSION

-- the word of a version
abbrev pub version_word : Version → Word
version_word One = codes "1"
version_word Two = codes "2"
version_word Three = codes "3"
version_word Four = codes "4"

-- the version of a word, or why it has none
abbrev pub version_judge : Word → Result Version Cause
version_judge v =
    if bytes_eq v (codes "1") then Ok One else
    if bytes_eq v (codes "2") then Ok Two else
    if bytes_eq v (codes "3") then Ok Three else
    if bytes_eq v (codes "4") then Ok Four else
    Err (if is_digits v then Number else Syntax)

-- the word of a version that is known
unfoldable pub version : Piece Version
version = token version_judge version_word (λ _. Unit {0})

-- ---- rows of terms and words

-- what a problem says of the rows after it: the width, the number of inputs, the fields of an abstract value, and the
-- turns
pub record ProblemShape : Type 0 where
  pub width : ℕ
  pub inputs : ℕ
  pub fields : ℕ
  pub turns : ℕ

-- what a problem's lines say of the rows after it
abbrev pub shape_of : Lines → ProblemShape
shape_of l = record {
  width = l.header.width;
  inputs = l.header.inputs;
  fields = fields_of l.kind;
  turns = l.budgets.turns;
}

-- the letter of fields, how many there are, and the most nodes and nesting of a term
abbrev pub term_limits : ProblemShape → TermLimits
term_limits s =
    record { letter = F; variables = s.inputs * s.fields; nodes = 16384; nesting = 128 }

-- a term over the fields of all inputs
abbrev pub result_term : ProblemShape → Piece Term
result_term s = term s.width (term_limits s)

-- a term for each field
abbrev pub terms : ProblemShape → Piece (List Term)
terms s = times (λ _. result_term s) s.fields

-- a word of the width
abbrev pub word : ProblemShape → Piece ℕ
word s = number 0 (2 ^ s.width - 1)

-- so many words
abbrev pub words : ProblemShape → ℕ → Piece (List ℕ)
words s count = times (λ _. word s) count

-- the least place after others
abbrev pub place_after : List ℕ → ℕ
place_after [] = 0
place_after (i ∷ []) = i + 1
place_after (i ∷ j ∷ places) = place_after (j ∷ places)

-- rising places of so many, which are numbers of 32 bits
abbrev pub places : ℕ → Piece (List ℕ)
places count = repeat is_number_next (λ seen. below (place_after seen) (min count (2 ^ 32)))

-- ---- turns

-- how many negative examples there are after a turn: those that a positive one keeps, or one more
abbrev pub negatives_after : ℕ → Turn → ℕ
negatives_after count (PositiveTurn t e kept) = length kept
negatives_after count (NegativeTurn t e) = count + 1

-- how many negative examples there are after further turns
abbrev pub negatives_from : ℕ → List Turn → ℕ
negatives_from count [] = count
negatives_from count (t ∷ trace) = negatives_from (negatives_after count t) trace

-- how many negative examples there are after a trace
abbrev pub negative_count : List Turn → ℕ
negative_count trace = negatives_from 0 trace

-- TERMS in FIELDS word WORDS kept PLACES
abbrev pub ExampleParts : Type 0
ExampleParts = List Term × (List ℕ × (List ℕ × List ℕ))

-- terms, the fields of all inputs, a word for each input, and the places that are kept
abbrev pub example : ProblemShape → ℕ → Piece ExampleParts
example s count =
    terms s ▹ λ _.
    keyed (codes "in") (words s (s.inputs * s.fields)) ▹ λ _.
    keyed (codes "word") (words s s.inputs) ▹ λ _.
    keyed (codes "kept") (places count)

-- TERMS in FIELDS out WORD
abbrev pub CounterParts : Type 0
CounterParts = List Term × (List ℕ × ℕ)

-- terms, the fields of all inputs, and a word
abbrev pub counterexample : ProblemShape → Piece CounterParts
counterexample s =
    terms s ▹ λ _. keyed (codes "in") (words s (s.inputs * s.fields)) ▹ λ _. keyed (codes "out") (word s)

-- the turn of its parts
abbrev pub turn_of : ExampleParts ⊎ CounterParts → Turn
turn_of (inl (t, (row, (words, kept)))) = PositiveTurn t (record { inputs = row; words = words }) kept
turn_of (inr (t, (row, word))) = NegativeTurn t (record { inputs = row; word = word })

-- the parts of a turn
abbrev pub turn_parts : Turn → ExampleParts ⊎ CounterParts
turn_parts (PositiveTurn t e kept) = inl (t, (e.inputs, (e.words, kept)))
turn_parts (NegativeTurn t e) = inr (t, (e.inputs, e.word))

-- a turn after others, of so many at most
unfoldable pub turn : ProblemShape → ℕ → List Turn → Piece Turn
turn s most seen =
    one_more (nat_lt (length seen) most) (seen_as turn_of turn_parts (choice (next_is (codes "positive"))
    (keyed (codes "positive") (example s (negative_count seen)))
    (keyed (codes "negative") (counterexample s))))

-- whether a turn comes
abbrev pub is_turn_next : Words → Bool
is_turn_next [] = false
is_turn_next (v ∷ vs) = bytes_eq v (codes "positive") || bytes_eq v (codes "negative")

-- at most so many turns
unfoldable pub turns : ProblemShape → ℕ → Piece (List Turn)
turns s most = repeat is_turn_next (turn s most)

-- ---- logs

-- VARIABLE CLAUSE
abbrev pub code : Piece ℕ
code = number 0 (2 ^ 32 - 1)

-- the step of its parts
abbrev pub step_of : ℕ × ℕ → Step
step_of (variable, clause) = record { variable = variable; clause = clause }

-- the parts of a step
abbrev pub step_parts : Step → ℕ × ℕ
step_parts step = (step.variable, step.clause)

-- a variable and a clause's number
abbrev pub step : Piece Step
step = seen_as step_of step_parts (code ▹ λ _. code)

-- chain FIRST { VARIABLE CLAUSE }
abbrev pub chain_of : ℕ × List Step → Chain
chain_of (first, steps) = record { first = first; steps = steps }

-- the parts of a chain
abbrev pub chain_parts : Chain → ℕ × List Step
chain_parts chain = (chain.first, chain.steps)

-- the first clause's number, and steps
unfoldable pub chain : Piece Chain
chain = seen_as chain_of chain_parts (keyed (codes "chain") (code ▹ λ _. repeat is_number_next (λ _. step)))

-- log NAME { chain }
unfoldable pub log : Word → Piece (List Chain)
log name = keyed (codes "log") (keyed name (repeat (next_is (codes "chain")) (λ _. chain)))

-- ---- hints

-- numerals of 32 bits
abbrev pub numbers : Piece (List ℕ)
numbers = repeat is_number_next (λ _. code)

-- the hint of its codes and its numbers
abbrev pub hint_of : List ℕ × List ℕ → Hint
hint_of (clause, by) = record { clause = clause; by = by }

-- the codes and the numbers of a hint
abbrev pub hint_parts : Hint → List ℕ × List ℕ
hint_parts hint = (hint.clause, hint.by)

-- a hint: clause CODES by NUMBERS
unfoldable pub hint : Piece Hint
hint = seen_as hint_of hint_parts (keyed (codes "clause") (numbers ▹ λ _. keyed (codes "by") numbers))

-- log NAME { hint }
unfoldable pub hints : Word → Piece (List Hint)
hints name = keyed (codes "log") (keyed name (repeat (next_is (codes "clause")) (λ _. hint)))

-- ---- the query that was asked

-- nothing at the start, an example to keep, or the terms of a query
abbrev pub AskedParts : Type 0
AskedParts = Unit {0} ⊎ (ExampleParts ⊎ (List Term ⊎ List Term))

-- what was asked, of its parts
abbrev pub asked_of : AskedParts → Asked
asked_of (inl u) = Start
asked_of (inr (inl (t, (row, (words, places))))) = Keep t (record { inputs = row; words = words }) places
asked_of (inr (inr (inl t))) = Sound t
asked_of (inr (inr (inr t))) = Precise t

-- the parts of what was asked
abbrev pub asked_parts : Asked → AskedParts
asked_parts Start = inl tt
asked_parts (Keep t e places) = inr (inl (t, (e.inputs, (e.words, places))))
asked_parts (Sound t) = inr (inr (inl t))
asked_parts (Precise t) = inr (inr (inr t))

-- query start, or query keep EXAMPLE, query sound TERMS, query precise TERMS, after a trace
unfoldable pub asked : ProblemShape → List Turn → Piece Asked
asked s trace = keyed (codes "query") (seen_as asked_of asked_parts (
    choice (next_is (codes "start")) (key (codes "start")) (
    choice (next_is (codes "keep")) (keyed (codes "keep") (example s (negative_count trace))) (
    choice (next_is (codes "sound")) (keyed (codes "sound") (terms s))
    (keyed (codes "precise") (terms s))))))

-- ---- the answer

abbrev pub BestParts : Type 0
BestParts = List Term × (List Turn × (List Chain × List Chain))

-- turns, and a log
abbrev pub NoneParts : Type 0
NoneParts = List Turn × List Chain

-- turns, what was asked after them, and a log
abbrev pub ConflictParts : Type 0
ConflictParts = List Turn × (Asked × List Chain)

-- the parts of each kind of answer
abbrev pub OutcomeParts : Type 0
OutcomeParts = BestParts ⊎ (NoneParts ⊎ (List Turn ⊎ ConflictParts))

-- the outcome of its parts
abbrev pub outcome_of_parts : OutcomeParts → Outcome
outcome_of_parts (inl (t, (trace, (sound_log, best_log)))) = Best t trace sound_log best_log
outcome_of_parts (inr (inl (trace, log))) = Absent trace log
outcome_of_parts (inr (inr (inl trace))) = Turns trace
outcome_of_parts (inr (inr (inr (trace, (asked, log))))) = Conflicts trace asked log

-- the parts of an outcome
abbrev pub outcome_parts : Outcome → OutcomeParts
outcome_parts (Best t trace sound_log best_log) = inl (t, (trace, (sound_log, best_log)))
outcome_parts (Absent trace log) = inr (inl (trace, log))
outcome_parts (Turns trace) = inr (inr (inl trace))
outcome_parts (Conflicts trace asked log) = inr (inr (inr (trace, (asked, log))))

-- best { term TERM } { TURN } log sound { CHAIN } log best { CHAIN }
unfoldable pub best : ProblemShape → Piece BestParts
best s = keyed (codes "best") (
    times (λ _. keyed (codes "term") (result_term s)) s.fields ▹ λ _.
    turns s s.turns ▹ λ _.
    log (codes "sound") ▹ λ _.
    log (codes "best"))

-- none { TURN } log fit { CHAIN }
unfoldable pub none : ProblemShape → Piece NoneParts
none s = keyed (codes "none") (turns s s.turns ▹ λ _. log (codes "fit"))

-- turns { TURN }, of which there may be one more
unfoldable pub spent_turns : ProblemShape → Piece (List Turn)
spent_turns s = keyed (codes "turns") (turns s (s.turns + 1))

-- conflicts { TURN } QUERY log spent { CHAIN }
unfoldable pub spent_conflicts : ProblemShape → Piece ConflictParts
spent_conflicts s =
    keyed (codes "conflicts") (turns s s.turns ▹ λ trace. asked s trace ▹ λ _. log (codes "spent"))

-- how a synthesis ended, with chains
unfoldable pub outcome : ProblemShape → Piece Outcome
outcome s = seen_as outcome_of_parts outcome_parts (
    choice (next_is (codes "best")) (best s) (
    choice (next_is (codes "none")) (none s) (
    choice (next_is (codes "turns")) (spent_turns s)
    (spent_conflicts s))))

-- ---- the answer with hints

-- the same piece, where some values alone are seen so
abbrev pub spelled_where : {X : Type 0} → Piece X → Option X → Words
spelled_where p None = []
spelled_where p (Some x) = p.spell x

-- a value that isn't seen so isn't good
abbrev pub good_where : {X : Type 0} → Piece X → Option X → Type 0
good_where p None = ⊥
good_where p (Some x) = p.Good x

-- a piece some of whose values alone are seen as others
abbrev pub seen_where : {X Y : Type 0} → (X → Y) → (Y → Option X) → Piece X → Piece Y
seen_where to from p = record {
  spell = λ y. spelled_where p (from y);
  Good = λ y. good_where p (from y);
  read = p.read >>= λ x. done (to x);
}

-- an answer with chains
abbrev pub chained_of : Outcome → Answer
chained_of o = record { outcome = o; proofs = Chains }

-- the outcome of an answer with chains
abbrev pub chained_part : Outcome → Proofs → Option Outcome
chained_part o Chains = Some o
chained_part o (Hinted first second) = None

-- terms, turns and two lists of hints
abbrev pub HintedBest : Type 0
HintedBest = List Term × (List Turn × (List Hint × List Hint))

-- turns and a list of hints
abbrev pub HintedNone : Type 0
HintedNone = List Turn × List Hint

-- an answer with hints
abbrev pub hinted_of : HintedBest ⊎ HintedNone → Answer
hinted_of (inl (t, (trace, (first, second)))) =
    record { outcome = Best t trace [] []; proofs = Hinted first second }
hinted_of (inr (trace, first)) = record { outcome = Absent trace []; proofs = Hinted first [] }

-- the parts of an answer with hints, whose logs are empty
abbrev pub hinted_part : Outcome → Proofs → Option (HintedBest ⊎ HintedNone)
hinted_part (Best t trace [] []) (Hinted first second) = Some (inl (t, (trace, (first, second))))
hinted_part (Absent trace []) (Hinted first []) = Some (inr (trace, first))
hinted_part o proofs = None

-- best { term TERM } { TURN } log sound { HINT } log best { HINT }
unfoldable pub hinted_best : ProblemShape → Piece HintedBest
hinted_best s = keyed (codes "best") (
    times (λ _. keyed (codes "term") (result_term s)) s.fields ▹ λ _.
    turns s s.turns ▹ λ _.
    hints (codes "sound") ▹ λ _.
    hints (codes "best"))

-- none { TURN } log fit { HINT }
unfoldable pub hinted_none : ProblemShape → Piece HintedNone
hinted_none s = keyed (codes "none") (turns s s.turns ▹ λ _. hints (codes "fit"))

-- what stands after `answer`: how a synthesis ended, with hints or with chains
unfoldable pub answer : Bool → ProblemShape → Piece Answer
answer true s =
    seen_where hinted_of (λ a. hinted_part a.outcome a.proofs)
    (choice (next_is (codes "best")) (hinted_best s) (hinted_none s))
answer false s = seen_where chained_of (λ a. chained_part a.outcome a.proofs) (outcome s)
