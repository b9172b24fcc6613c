-- When an outcome is accepted, by its contents alone: conditions in order, and the fault of the first that fails.
use Rattle.std.specs.Prelude.{ℕ, suc, ◌≡◌, ◌⊎◌, Bool, List, [], ◌∷◌, length, zip, Option, None, Some, Result, Ok, Err}
use Rattle.am_bv.specs.declared.term.Term.{Term}
use Rattle.am_chain.specs.declared.chain.Chain.{Chain}
use Rattle.am_chain.specs.Replay.{EndsEmpty, LogFault, Refutes, replay}
use Rattle.am_domain.specs.Examples.{Excludes, IsTrueExample, IsValidExample}
use Rattle.am_gate.specs.Circuit.{Net}
use Rattle.am_hint.specs.HintReplay.{HintsFault, HintsRefute, hint_clauses, hints_fault}
use Rattle.am_hint.specs.declared.hint.Hint.{Hint}
use Rattle.am_problem.specs.Examples.{negative_of, positive_of}
use Rattle.am_problem.specs.Problem.{Problem, question_of}
use Rattle.am_problem.specs.declared.examples.Negative.{Negative}
use Rattle.am_problem.specs.declared.examples.Positive.{Positive}
use Rattle.am_tree.specs.Trees.{IsTreeOf}
use Rattle.am_tree.specs.declared.tree.Tree.{Tree}
use Rattle.am_query.specs.Formulas.{query_circuit}
use Rattle.am_query.specs.Turns.{after_trace}
use Rattle.am_query.specs.declared.fault.Fault.{Fault}
use Rattle.am_query.specs.declared.fault.Fault.TheVariants.{BadChain, BadHint, NegativeFalse, NotEmpty, PositiveFalse}
use Rattle.am_query.specs.declared.fault.Fault.TheVariants.{TermOutside, Unfinished}
use Rattle.am_query.specs.declared.outcome.Outcome.{Outcome}
use Rattle.am_query.specs.declared.outcome.Outcome.TheVariants.{Absent, Best, Conflicts, Turns}
use Rattle.am_query.specs.declared.query.Query.TheVariants.{Fit, Precise, Sound}

-- a test, which passes, or fails with a fault
pub record Test : Type 1 where
  pub Passes : Type 0
  pub Fails : Fault → Type 0

-- a condition, and the fault where it doesn't hold
abbrev pub condition : Type 0 → Fault → Test
condition Holds fault = record { Passes = Holds; Fails = λ f. (¬ Holds) × (f ≡ fault) }

-- two tests in order: the fault is that of the first that fails
infixr 5 ◌before◌
abbrev pub ◌before◌ : Test → Test → Test
a before b = record { Passes = a.Passes × b.Passes; Fails = λ f. a.Fails f ⊎ (a.Passes × b.Fails f) }

-- a condition on each item in turn, whose fault tells the item's number
abbrev pub each_is : {A : Type 0} → (A → Type 0) → (ℕ → Fault) → ℕ → List A → Test
each_is Good fault i [] = condition (Unit {0}) (fault i)
each_is Good fault i (x ∷ xs) = condition (Good x) (fault i) before each_is Good fault (suc i) xs

-- the fault of a log: of its first chain that isn't valid, else that its last clause isn't there or not empty
abbrev pub IsLogFault : ℕ → Result (List (List ℕ)) LogFault → Fault → Type 0
IsLogFault j (Err bad) f = f ≡ BadChain j bad.chain bad.fault.step bad.fault.why
IsLogFault j (Ok derived) f = (¬ EndsEmpty derived) × (f ≡ NotEmpty j)

-- refutation number j refutes the clauses
abbrev pub refuted : ℕ → List (List ℕ) → List Chain → Test
refuted j clauses log = record { Passes = Refutes clauses log; Fails = IsLogFault j (replay clauses [] log) }

-- the fault of hints: of the first that doesn't pass, else that the last one's clause isn't there or not empty
abbrev pub IsHintsFault : ℕ → List Hint → Option HintsFault → Fault → Type 0
IsHintsFault j hints (Some bad) f = f ≡ BadHint j bad.hint bad.fault.place bad.fault.why
IsHintsFault j hints None f = (¬ EndsEmpty (hint_clauses hints)) × (f ≡ NotEmpty j)

-- the hints of refutation number j refute the clauses, which are over so many variables
abbrev pub hints_refute : ℕ → ℕ → List (List ℕ) → List Hint → Test
hints_refute j vars clauses hints = record {
  Passes = HintsRefute vars clauses hints;
  Fails = IsHintsFault j hints (hints_fault vars clauses 0 hints);
}

-- a tree from the start, with the problem's depth, gives the term
abbrev pub IsGiven : Problem → ℕ → Term → Type 0
IsGiven p start term = (t : Tree) × IsTreeOf p.rules p.depth start term t

-- each term is given from its start, and there are as many as there are starts
abbrev pub terms_inside : Problem → List Term → Test
terms_inside p terms =
    let pairs = zip p.starts terms in
    each_is (λ (start, term). IsGiven p start term) TermOutside 0 pairs
    before condition (length terms ≡ length p.starts) (TermOutside (length pairs))

-- each positive example is true
abbrev pub positives_true : Problem → List Positive → Test
positives_true p positives = each_is (λ e. IsTrueExample (question_of p) (positive_of p e)) PositiveFalse 0 positives

-- a negative example is valid, and the terms satisfy it
abbrev pub IsExcluded : Problem → List Term → Negative → Type 0
IsExcluded p terms e =
    IsValidExample (question_of p) (negative_of p e) × Excludes (question_of p) terms (negative_of p e)

-- each negative example is valid, and the terms satisfy it
abbrev pub negatives_true : Problem → List Term → List Negative → Test
negatives_true p terms negatives = each_is (IsExcluded p terms) NegativeFalse 0 negatives

-- the test of an outcome over formulas of this form, by tests that the first formula and the second are refuted
abbrev pub acceptance_by : Bool → Problem → Outcome → (Net → Test) → (Net → Test) → Test
acceptance_by folding p (Best t trace sound_log best_log) first second =
    let s = after_trace trace in
    terms_inside p t
    before positives_true p s.positives
    before negatives_true p t s.negatives
    before first (query_circuit folding p (Sound t))
    before second (query_circuit folding p (Precise t s.positives s.negatives))
acceptance_by folding p (Absent trace log) first second =
    let s = after_trace trace in
    positives_true p s.positives
    before first (query_circuit folding p (Fit s.positives []))
acceptance_by folding p (Turns trace) first second = condition ⊥ Unfinished
acceptance_by folding p (Conflicts trace asked log) first second = condition ⊥ Unfinished

-- the log that is to refute the first formula
abbrev pub first_log : Outcome → List Chain
first_log (Best t trace sound_log best_log) = sound_log
first_log (Absent trace log) = log
first_log (Turns trace) = []
first_log (Conflicts trace asked log) = log

-- the log that is to refute the second formula
abbrev pub second_log : Outcome → List Chain
second_log (Best t trace sound_log best_log) = best_log
second_log (Absent trace log) = []
second_log (Turns trace) = []
second_log (Conflicts trace asked log) = []

-- the test of an outcome, whose logs refute
abbrev pub acceptance : Bool → Problem → Outcome → Test
acceptance folding p o =
    acceptance_by folding p o (λ c. refuted 0 c.clauses (first_log o)) (λ c. refuted 1 c.clauses (second_log o))

-- the test of an outcome, whose logs aren't looked at: in their place hints refute, of which there are two lists
abbrev pub hinted_acceptance : Bool → Problem → Outcome → List Hint → List Hint → Test
hinted_acceptance folding p o first second =
    acceptance_by folding p o (λ c. hints_refute 0 c.vars c.clauses first) (λ c. hints_refute 1 c.vars c.clauses second)

-- the outcome passes its test
abbrev pub IsAccepted : Bool → Problem → Outcome → Type 0
IsAccepted folding p o = (acceptance folding p o).Passes

-- the outcome fails its test with this fault
abbrev pub IsFault : Bool → Problem → Outcome → Fault → Type 0
IsFault folding p o f = (acceptance folding p o).Fails f

-- the outcome is accepted with these hints in place of its logs
abbrev pub IsAcceptedWith : Bool → Problem → Outcome → List Hint → List Hint → Type 0
IsAcceptedWith folding p o first second = (hinted_acceptance folding p o first second).Passes

-- with these hints the outcome has this fault
abbrev pub IsFaultWith : Bool → Problem → Outcome → List Hint → List Hint → Fault → Type 0
IsFaultWith folding p o first second f = (hinted_acceptance folding p o first second).Fails f
