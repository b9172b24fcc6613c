-- Laws of acceptance: each outcome has one verdict, and what is accepted is right.
use Rattle.std.specs.Prelude.{ℕ, ◌≡◌, ◌⊎◌, Bool, List, [], Err, Some}
use Rattle.am_bv.specs.declared.term.Term.{Term}
use Rattle.am_chain.specs.declared.chain.Chain.{Chain}
use Rattle.am_chain.specs.Replay.{DerivesClauses, EndsEmpty, LogFault, Refutes, replay}
use Rattle.am_domain.specs.Question.{IsAbsent, IsBest}
use Rattle.am_domain.specs.Examples.{IsTrueExample}
use Rattle.am_hint.specs.HintReplay.{AllPass, HintsFault, hint_clauses, hints_fault}
use Rattle.am_hint.specs.declared.hint.Hint.{Hint}
use Rattle.am_problem.specs.Examples.{positive_of}
use Rattle.am_problem.specs.Limits.{IsFormed}
use Rattle.am_problem.specs.Problem.{Problem, question_of}
use Rattle.am_problem.specs.declared.examples.Negative.{Negative}
use Rattle.am_problem.specs.declared.examples.Positive.{Positive}
use Rattle.am_query.specs.Acceptance.{IsAccepted, IsAcceptedWith, IsExcluded, IsGiven, Test, acceptance}
use Rattle.am_query.specs.Acceptance.{hinted_acceptance, hints_refute, refuted}
use Rattle.am_query.specs.Formulas.{query_circuit}
use Rattle.am_query.specs.Turns.{AreRows, IsCandidate, IsTrace, after_trace}
use Rattle.am_query.specs.declared.fault.Fault.{Fault}
use Rattle.am_query.specs.declared.fault.Fault.TheVariants.{BadChain, BadHint, NotEmpty}
use Rattle.am_query.specs.declared.outcome.Outcome.{Outcome}
use Rattle.am_query.specs.declared.outcome.Outcome.TheVariants.{Absent, Best, Conflicts, Turns}
use Rattle.am_query.specs.declared.query.Query.TheVariants.{Fit, Precise, Sound}
use Rattle.am_query.specs.declared.turn.Turn.{Turn}

-- ---- verdicts

-- a test doesn't both pass and fail, and fails with one fault at most
pub record HasOneVerdict (t : Test) : Type 0 where
  pub apart : t.Passes → (f : Fault) → ¬ t.Fails f
  pub one : (f g : Fault) → t.Fails f → t.Fails g → f ≡ g

-- so it is with an outcome, by its logs or by hints
abbrev pub VerdictsAreUnique : Type 0
VerdictsAreUnique = (folding : Bool) (p : Problem) (o : Outcome) →
    HasOneVerdict (acceptance folding p o)
    × ((first second : List Hint) → HasOneVerdict (hinted_acceptance folding p o first second))

-- of each condition on terms and examples, whether it holds
pub record AreDecided (p : Problem) : Type 0 where
  pub given : (start : ℕ) (t : Term) → IsGiven p start t ⊎ (¬ IsGiven p start t)
  pub true : (e : Positive) → let is = IsTrueExample (question_of p) (positive_of p e) in is ⊎ (¬ is)
  pub excluded : (t : List Term) (e : Negative) → IsExcluded p t e ⊎ (¬ IsExcluded p t e)

-- a test passes, or it fails with a fault
abbrev pub IsDecidedTest : Test → Type 0
IsDecidedTest t = t.Passes ⊎ ((f : Fault) × t.Fails f)

-- where the conditions are decided, an outcome is accepted or has a fault, by its logs or by hints
abbrev pub VerdictsExist : Type 0
VerdictsExist = (folding : Bool) (p : Problem) → AreDecided p → (o : Outcome) →
    IsDecidedTest (acceptance folding p o)
    × ((first second : List Hint) → IsDecidedTest (hinted_acceptance folding p o first second))

-- a refutation fails with its first fault, and, where it has none, where it doesn't end with the empty clause
abbrev pub LogsAreTestedInTurn : Type 0
LogsAreTestedInTurn = (j : ℕ) (clauses derived : List (List ℕ)) (log : List Chain) →
    ((bad : LogFault) → replay clauses [] log ≡ Err bad →
    (refuted j clauses log).Fails (BadChain j bad.chain bad.fault.step bad.fault.why))
    × (DerivesClauses clauses log derived → ¬ EndsEmpty derived → (refuted j clauses log).Fails (NotEmpty j))

-- so do hints
abbrev pub HintsAreTestedInTurn : Type 0
HintsAreTestedInTurn = (j vars : ℕ) (clauses : List (List ℕ)) (hints : List Hint) →
    ((bad : HintsFault) → hints_fault vars clauses 0 hints ≡ Some bad →
    (hints_refute j vars clauses hints).Fails (BadHint j bad.hint bad.fault.place bad.fault.why))
    × (AllPass vars clauses hints → ¬ EndsEmpty (hint_clauses hints) →
    (hints_refute j vars clauses hints).Fails (NotEmpty j))

-- ---- what is accepted is right

-- the examples of an outcome have rows of the problem
abbrev pub FitsInto : Problem → Outcome → Type 0
FitsInto p (Best t trace sound_log best_log) = AreRows p (after_trace trace)
FitsInto p (Absent trace log) = AreRows p (after_trace trace)
FitsInto p (Turns trace) = Unit {0}
FitsInto p (Conflicts trace asked log) = Unit {0}

-- what an outcome says of transformers
abbrev pub IsRight : Problem → Outcome → Type 0
IsRight p (Best t trace sound_log best_log) = IsBest (question_of p) t
IsRight p (Absent trace log) = IsAbsent (question_of p)
IsRight p (Turns trace) = ⊥
IsRight p (Conflicts trace asked log) = ⊥

-- what an accepted outcome of a problem says is right
abbrev pub AcceptedIsRight : Type 0
AcceptedIsRight = (folding : Bool) (p : Problem) → IsFormed p → (o : Outcome) → FitsInto p o →
    IsAccepted folding p o → IsRight p o

-- so is what it says where it is accepted with hints
abbrev pub AcceptedWithHintsIsRight : Type 0
AcceptedWithHintsIsRight = (folding : Bool) (p : Problem) → IsFormed p → (o : Outcome) → FitsInto p o →
    (first second : List Hint) → IsAcceptedWith folding p o first second → IsRight p o

-- ---- what a synthesis shows is accepted

-- with a valid trace: a transformer that satisfies the examples after it, and two refutations
abbrev pub BestIsAccepted : Type 0
BestIsAccepted = (folding : Bool) (p : Problem) (t : List Term) (trace : List Turn) (sound_log best_log : List Chain) →
    let s = after_trace trace in
    IsTrace p trace → IsCandidate p s t →
    Refutes (query_circuit folding p (Sound t)).clauses sound_log →
    Refutes (query_circuit folding p (Precise t s.positives s.negatives)).clauses best_log →
    IsAccepted folding p (Best t trace sound_log best_log)

-- with a valid trace: a refutation of the positive examples after it
abbrev pub AbsentIsAccepted : Type 0
AbsentIsAccepted = (folding : Bool) (p : Problem) (trace : List Turn) (log : List Chain) →
    IsTrace p trace → Refutes (query_circuit folding p (Fit (after_trace trace).positives [])).clauses log →
    IsAccepted folding p (Absent trace log)
