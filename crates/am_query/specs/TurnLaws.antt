-- Laws of turns: which examples are kept, what a trace shows, and how long it can be.
use Rattle.std.specs.Prelude.{ℕ, ◌≡◌, ◌+◌, ◌*◌, ◌≤◌, ◌↔◌, List, [], ◌∷◌, ◌++◌, All, Some, length, slice_get}
use Rattle.am_domain.specs.Examples.{IsTrueExample, IsValidExample}
use Rattle.am_problem.specs.Examples.{negative_of, positive_of}
use Rattle.am_problem.specs.Problem.{Problem, question_of}
use Rattle.am_problem.specs.declared.examples.Negative.{Negative}
use Rattle.am_problem.specs.declared.examples.Positive.{Positive}
use Rattle.am_tree.specs.Counts.{tuple_count}
use Rattle.am_query.specs.Transformers.{SomeSuits}
use Rattle.am_query.specs.Turns.{AreKeptBefore, AreRows, IsTrace, IsTurn, after_trace, after_turn, at_places}
use Rattle.am_query.specs.declared.state.State.{State}
use Rattle.am_query.specs.declared.turn.Turn.{Turn}

-- ---- kept examples

-- before the first example no place is kept
abbrev pub NoneIsKeptAtFirst : Type 0
NoneIsKeptAtFirst = (p : Problem) (positives : List Positive) (negatives : List Negative) →
    AreKeptBefore p positives negatives 0 []

-- the next place is kept exactly where some transformer satisfies the positive examples, the kept ones and its own
abbrev pub KeptGrow : Type 0
KeptGrow = (p : Problem) (positives : List Positive) (negatives : List Negative) (n : ℕ) (places : List ℕ) →
    AreKeptBefore p positives negatives n places →
    let further = places ++ n ∷ [] in
    (SomeSuits p positives (at_places negatives further) → AreKeptBefore p positives negatives (n + 1) further)
    × ((¬ SomeSuits p positives (at_places negatives further)) → AreKeptBefore p positives negatives (n + 1) places)

-- the kept places are determined
abbrev pub KeptAreDetermined : Type 0
KeptAreDetermined = (p : Problem) (positives : List Positive) (negatives : List Negative) (n : ℕ)
    (places others : List ℕ) →
    AreKeptBefore p positives negatives n places → AreKeptBefore p positives negatives n others → places ≡ others

-- some transformer satisfies the positive examples and the kept ones where some satisfies the positive ones at all
abbrev pub KeptAreSatisfied : Type 0
KeptAreSatisfied = (p : Problem) (positives : List Positive) (negatives : List Negative) (n : ℕ) (places : List ℕ) →
    AreKeptBefore p positives negatives n places → SomeSuits p positives [] →
    SomeSuits p positives (at_places negatives places)

-- where no transformer satisfies the positive examples, nothing is kept
abbrev pub NothingIsKept : Type 0
NothingIsKept = (p : Problem) (positives : List Positive) (negatives : List Negative) (n : ℕ) (places : List ℕ) →
    ¬ SomeSuits p positives [] → AreKeptBefore p positives negatives n places ↔ (places ≡ [])

-- one place more has the item at it
abbrev pub PlacesGrow : Type 0
PlacesGrow = (negatives : List Negative) (places : List ℕ) (i : ℕ) (e : Negative) → slice_get negatives i ≡ Some e →
    at_places negatives (places ++ i ∷ []) ≡ at_places negatives places ++ e ∷ []

-- ---- traces

-- a valid trace goes on by a turn
abbrev pub TracesGrow : Type 0
TracesGrow = (p : Problem) (trace : List Turn) (t : Turn) → IsTrace p trace → IsTurn p (after_trace trace) t →
    IsTrace p (trace ++ t ∷ []) × (after_trace (trace ++ t ∷ []) ≡ after_turn (after_trace trace) t)

-- what the examples after so many turns are: rows of the problem, true and valid, and no more than the turns
pub record AreShown (p : Problem) (turns : ℕ) (s : State) : Type 0 where
  pub rows : AreRows p s
  pub true : All (λ e. IsTrueExample (question_of p) (positive_of p e)) s.positives
  pub valid : All (λ e. IsValidExample (question_of p) (negative_of p e)) s.negatives
  pub few : length s.positives + length s.negatives ≤ turns

-- after a valid trace the examples are true, valid, and no more than its turns
abbrev pub TracesShow : Type 0
TracesShow = (p : Problem) (trace : List Turn) → IsTrace p trace → AreShown p (length trace) (after_trace trace)

-- a trace has at most K * (K + 1) turns, where K is the number of tuples of trees
abbrev pub TurnsAreFew : Type 0
TurnsAreFew = (p : Problem) (trace : List Turn) → IsTrace p trace →
    let k = tuple_count p.rules p.starts p.depth in length trace ≤ k * (k + 1)
