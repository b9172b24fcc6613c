-- How a trace goes on, and what the examples after it are.
use Rattle.std.proofs.Common.{◌≡◌, ℕ, suc, ◌+◌, ◌≤◌, List, [], ◌∷◌, ◌++◌, length, refl, ◌∙◌, ap, subst, arith}
use Rattle.std.proofs.Common.{add-zero, zero-add, length-append}
use Rattle.std.specs.Prelude.{Option, None, Some, slice_get}
use Rattle.std.specs.List.{All, cons_option}
use Rattle.std.proofs.lemmas.List.Elements.{All-cons, All-nil, All-push, filter_map-append}
use Rattle.std.proofs.lemmas.Map.Keys.{sorted_from_strictly_increasing}
use Rattle.std.proofs.lemmas.Map.Views.{length-le_from_below}
use Rattle.std.proofs.lemmas.Option.{get_or_from_slice_get, slice_get_within}
use Rattle.am_domain.specs.Examples.{IsTrueExample, IsValidExample}
use Rattle.am_problem.specs.Examples.{IsNegative, IsPositive, negative_of, positive_of}
use Rattle.am_problem.specs.Problem.{Problem, question_of}
use Rattle.am_problem.specs.declared.examples.Negative.{Negative}
use Rattle.am_problem.specs.declared.examples.Positive.{Positive}
use Rattle.am_query.specs.Turns.{AreKept, AreTurns, IsTurn, after_trace, after_turn}
use Rattle.am_query.specs.Turns.{after_turns, at_places, no_examples}
use Rattle.am_query.specs.TurnLaws.{AreShown, PlacesGrow, TracesGrow, TracesShow}
use Rattle.am_query.specs.declared.state.State.{State}
use Rattle.am_query.specs.declared.turn.Turn.{Turn}
use Rattle.am_query.specs.declared.turn.Turn.TheVariants.{Negative as NegativeTurn, Positive as PositiveTurn}

all_found : {A : Type 0} (P : A → Type 0) (o : Option A) (rest : List A) → ((x : A) → o ≡ Some x → P x) → All P rest →
    All P (cons_option o rest)
all_found P None rest found h = h
all_found P (Some x) rest found h = All-cons P x rest (found x refl) h

-- what holds of all items holds of those at places
pub all_at : {A : Type 0} (P : A → Type 0) (items : List A) (places : List ℕ) → All P items →
    All P (at_places items places)
all_at P items [] h = All-nil P
all_at P items (i ∷ places) h = all_found P (slice_get items i) (at_places items places)
    (λ x is. subst P (get_or_from_slice_get items i x x is) (h i x (slice_get_within items i x is)))
    (all_at P items places h)

-- one place more has the item at it
pub places_grow : PlacesGrow
places_grow negatives places i e is = filter_map-append (slice_get negatives) places (i ∷ []) ∙ one
  where
    one : at_places negatives places ++ cons_option (slice_get negatives i) [] ≡ at_places negatives places ++ e ∷ []
    one = ap (λ (o : Option Negative). at_places negatives places ++ cons_option o []) is

length-found : {A : Type 0} (o : Option A) (rest : List A) → length (cons_option o rest) ≤ suc (length rest)
length-found None rest = omega arith
length-found (Some x) rest = omega arith

-- there are no more items at places than places
pub length-at_places : {A : Type 0} (items : List A) (places : List ℕ) → length (at_places items places) ≤ length places
length-at_places items [] = omega arith
length-at_places items (i ∷ places) =
    omega (arith, length-found (slice_get items i) (at_places items places), length-at_places items places)

few_kept : (p : Problem) (positives : List Positive) (negatives : List Negative) (places : List ℕ) →
    AreKept p positives negatives places →
    length (at_places negatives places) ≤ length negatives
few_kept p positives negatives places kept =
    omega (
      arith,
      length-at_places negatives places,
      length-le_from_below (length negatives) places (sorted_from_strictly_increasing places kept.rising) kept.below,
    )

module _ (p : Problem) where
  after_one : (n : ℕ) (s : State) (t : Turn) → AreShown p n s → IsTurn p s t → AreShown p (n + 1) (after_turn s t)
  after_one n s (PositiveTurn t e kept) shown turn = record {
    rows = record {
      positives = All-push (IsPositive p) s.positives e shown.rows.positives turn.1.stored;
      negatives = all_at (IsNegative p) s.negatives kept shown.rows.negatives;
    };
    true = All-push (λ x. IsTrueExample (question_of p) (positive_of p x)) s.positives e shown.true turn.1.true;
    valid = all_at (λ x. IsValidExample (question_of p) (negative_of p x)) s.negatives kept shown.valid;
    few =
        let kept_few = few_kept p (s.positives ++ e ∷ []) s.negatives kept turn.2 in
        omega (arith, shown.few, length-append s.positives (e ∷ []), kept_few);
  }
  after_one n s (NegativeTurn t e) shown turn = record {
    rows = record {
      positives = shown.rows.positives;
      negatives = All-push (IsNegative p) s.negatives e shown.rows.negatives turn.2.stored;
    };
    true = shown.true;
    valid = All-push (λ x. IsValidExample (question_of p) (negative_of p x)) s.negatives e shown.valid turn.2.valid;
    few = omega (arith, shown.few, length-append s.negatives (e ∷ []));
  }

  after_all : (n : ℕ) (s : State) (ts : List Turn) → AreShown p n s → AreTurns p s ts →
      AreShown p (n + length ts) (after_turns s ts)
  after_all n s [] shown turns = rw add-zero shown
  after_all n s (t ∷ ts) shown turns =
      let further = after_all (n + 1) (after_turn s t) ts (after_one n s t shown turns.0) turns.1 in
      let same : n + 1 + length ts ≡ n + suc (length ts) = omega arith in
      subst (λ (m : ℕ). AreShown p m (after_turns s (t ∷ ts))) same further

  none_shown : AreShown p 0 no_examples
  none_shown = record {
    rows = record { positives = All-nil (IsPositive p); negatives = All-nil (IsNegative p) };
    true = All-nil (λ e. IsTrueExample (question_of p) (positive_of p e));
    valid = All-nil (λ e. IsValidExample (question_of p) (negative_of p e));
    few = omega arith;
  }

-- the examples after a valid trace are true, valid, and no more than its turns
pub traces_show : TracesShow
traces_show p trace turns =
    let shown = after_all p 0 no_examples trace (none_shown p) turns in
    subst (λ (n : ℕ). AreShown p n (after_trace trace)) (zero-add (length trace)) shown

next_turn : (s : State) (ts : List Turn) (t : Turn) → after_turns s (ts ++ t ∷ []) ≡ after_turn (after_turns s ts) t
next_turn s [] t = refl
next_turn s (u ∷ us) t = next_turn (after_turn s u) us t

turns_grow : (p : Problem) (s : State) (ts : List Turn) (t : Turn) → AreTurns p s ts → IsTurn p (after_turns s ts) t →
    AreTurns p s (ts ++ t ∷ [])
turns_grow p s [] t turns turn = (turn, tt)
turns_grow p s (u ∷ us) t turns turn = (turns.0, turns_grow p (after_turn s u) us t turns.1 turn)

-- a valid trace goes on by a turn
pub traces_grow : TracesGrow
traces_grow p trace t turns turn = (turns_grow p no_examples trace t turns turn, next_turn no_examples trace t)
