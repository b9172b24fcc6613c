-- The turns of a synthesis: what each of them shows, and what is asked after them.
use Rattle.std.specs.Prelude.{ℕ, ◌≡◌, ◌<◌, ◌↔◌, ◌⊎◌, nat_lt, List, [], ◌∷◌, ◌++◌, All, Contains, filter, length}
use Rattle.std.specs.Prelude.{slice_get}
use Rattle.std.specs.List.{filter_map}
use Rattle.std.specs.List.Sorted.{IsStrictlyIncreasing}
use Rattle.am_bv.specs.declared.term.Term.{Term}
use Rattle.am_domain.specs.Question.{IsSound}
use Rattle.am_problem.specs.Examples.{IsNegative, IsPositive}
use Rattle.am_problem.specs.Problem.{Problem, question_of}
use Rattle.am_problem.specs.declared.examples.Negative.{Negative}
use Rattle.am_problem.specs.declared.examples.Positive.{Positive}
use Rattle.am_query.specs.Transformers.{IsAdmitted, IsTransformerOf, IsUncovered, SomeSuits, SuitsExamples}
use Rattle.am_query.specs.declared.state.State.{State}
use Rattle.am_query.specs.declared.turn.Turn.{Turn}
use Rattle.am_query.specs.declared.turn.Turn.TheVariants.{Negative as NegativeTurn, Positive as PositiveTurn}
use Rattle.am_query.specs.declared.asked.Asked.{Asked}
use Rattle.am_query.specs.declared.asked.Asked.TheVariants.{Keep, Precise as PreciseAsked, Sound as SoundAsked, Start}
use Rattle.am_query.specs.declared.query.Query.{Query}
use Rattle.am_query.specs.declared.query.Query.TheVariants.{Fit, Precise, Sound}

-- ---- kept examples

-- the items at these places, in order
abbrev pub at_places : {A : Type 0} → List A → List ℕ → List A
at_places items places = filter_map (slice_get items) places

-- Of the negative examples before place n those at these places are kept, taken in order: each exactly where some
-- transformer satisfies the positive examples, the negative ones kept before it, and it.
pub record AreKeptBefore (p : Problem) (positives : List Positive) (negatives : List Negative) (n : ℕ)
    (places : List ℕ) : Type 0 where
  pub rising : IsStrictlyIncreasing places
  pub below : All (λ i. i < n) places
  pub exactly : (i : ℕ) → i < n → Contains places i ↔
      SomeSuits p positives (at_places negatives (filter (λ j. nat_lt j i) places ++ i ∷ []))

-- the same of all of them
abbrev pub AreKept : Problem → List Positive → List Negative → List ℕ → Type 0
AreKept p positives negatives places = AreKeptBefore p positives negatives (length negatives) places

-- ---- turns

-- before the first turn
abbrev pub no_examples : State
no_examples = record { positives = []; negatives = [] }

-- the rows of the examples have the lengths of the problem, and its words
pub record AreRows (p : Problem) (s : State) : Type 0 where
  pub positives : All (IsPositive p) s.positives
  pub negatives : All (IsNegative p) s.negatives

-- a transformer of the problem that satisfies the examples so far
pub record IsCandidate (p : Problem) (s : State) (t : List Term) : Type 0 where
  pub derivable : IsTransformerOf p t
  pub suits : SuitsExamples p t s.positives s.negatives

-- A positive turn: a candidate fails a true positive example, and these negative ones are kept beside it. A negative
-- turn: a sound candidate fails a negative example, which some transformer satisfies beside the examples so far.
abbrev pub IsTurn : Problem → State → Turn → Type 0
IsTurn p s (PositiveTurn t e kept) =
    IsCandidate p s t × IsUncovered p t e × AreKept p (s.positives ++ e ∷ []) s.negatives kept
IsTurn p s (NegativeTurn t e) =
    IsCandidate p s t × IsSound (question_of p) t × IsAdmitted p t e × SomeSuits p s.positives (s.negatives ++ e ∷ [])

-- the examples after a turn
abbrev pub after_turn : State → Turn → State
after_turn s (PositiveTurn t e kept) =
    record { positives = s.positives ++ e ∷ []; negatives = at_places s.negatives kept }
after_turn s (NegativeTurn t e) = record { positives = s.positives; negatives = s.negatives ++ e ∷ [] }

-- the examples after further turns
abbrev pub after_turns : State → List Turn → State
after_turns s [] = s
after_turns s (t ∷ ts) = after_turns (after_turn s t) ts

-- turns that follow one another
abbrev pub AreTurns : Problem → State → List Turn → Type 0
AreTurns p s [] = Unit {0}
AreTurns p s (t ∷ ts) = IsTurn p s t × AreTurns p (after_turn s t) ts

-- a valid trace: turns that follow one another, from no examples
abbrev pub IsTrace : Problem → List Turn → Type 0
IsTrace p trace = AreTurns p no_examples trace

-- the examples after a trace
abbrev pub after_trace : List Turn → State
after_trace trace = after_turns no_examples trace

-- ---- what is asked after a trace

-- places of negative examples that are asked about beside a new positive one: none, or a last one and those that are
-- kept before it
abbrev pub AreAskedPlaces : Problem → List Positive → List Negative → List ℕ → Type 0
AreAskedPlaces p positives negatives places =
    (places ≡ [])
    ⊎ ((before : List ℕ) × (last : ℕ) × (places ≡ before ++ last ∷ []) × (last < length negatives)
    × AreKeptBefore p positives negatives last before)

-- what may be asked after these turns
abbrev pub IsAsked : Problem → List Turn → Asked → Type 0
IsAsked p trace Start = trace ≡ []
IsAsked p trace (Keep t e places) =
    IsCandidate p (after_trace trace) t × IsUncovered p t e
    × AreAskedPlaces p ((after_trace trace).positives ++ e ∷ []) (after_trace trace).negatives places
IsAsked p trace (SoundAsked t) = IsCandidate p (after_trace trace) t
IsAsked p trace (PreciseAsked t) = IsCandidate p (after_trace trace) t × IsSound (question_of p) t

-- the query that is asked
abbrev pub query_of : State → Asked → Query
query_of s Start = Fit [] []
query_of s (Keep t e places) = Fit (s.positives ++ e ∷ []) (at_places s.negatives places)
query_of s (SoundAsked t) = Sound t
query_of s (PreciseAsked t) = Precise t s.positives s.negatives
