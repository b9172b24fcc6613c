-- How a synthesis goes on by a turn.
use Rattle.std.proofs.Common.{◌≡◌, ℕ, ◌+◌, ◌<◌, List, [], ◌∷◌, ◌++◌, length, inl, inr, refl, sym, ◌∙◌, ap, subst, arith}
use Rattle.std.proofs.Common.{length-append}
use Rattle.std.proofs.lemmas.List.{append-nil, append_assoc, map-append}
use Rattle.std.proofs.lemmas.List.Elements.{All-push}
use Rattle.am_bv.specs.declared.term.Term.{Term}
use Rattle.am_domain.specs.Examples.{Excludes, NoneSatisfies}
use Rattle.am_domain.specs.Question.{IsSound}
use Rattle.am_problem.specs.Examples.{IsPositive, negative_of, negatives_of, positives_of}
use Rattle.am_problem.specs.Problem.{Problem, question_of}
use Rattle.am_problem.specs.declared.examples.Negative.{Negative}
use Rattle.am_problem.specs.declared.examples.Positive.{Positive}
use Rattle.am_query.specs.Queries.{AreCompared, AreFitted}
use Rattle.am_query.specs.Transformers.{IsAdmitted, IsTransformerOf, IsUncovered, SuitsExamples}
use Rattle.am_query.specs.TurnLaws.{AreShown}
use Rattle.am_query.specs.Turns.{AreKept, IsTurn, after_trace, after_turn, at_places}
use Rattle.am_query.specs.declared.turn.Turn.{Turn}
use Rattle.am_query.specs.declared.turn.Turn.TheVariants.{Negative as NegativeTurn, Positive as PositiveTurn}
use Rattle.am_query.proofs.Laws.{nothing_is_kept, traces_grow, traces_show}
use Rattle.am_dual.specs.Synthesis.{IsTraceWithin}
use Rattle.am_dual.specs.declared.turns.Synthesis.{Synthesis}
use Rattle.am_dual.specs.declared.turns.Next.{Next}
use Rattle.am_dual.specs.declared.turns.Next.TheVariants.{End, Turn as NextTurn}
use Rattle.am_dual.specs.inside.Underway.{GoesOn, IsNextTurn, IsRightNext, IsUnderway, trace_so_far, turns_left}

-- a transformer that excludes another negative example satisfies it too
pub with_negative : (p : Problem) (t : List Term) (positives : List Positive) (negatives : List Negative)
    (e : Negative) → SuitsExamples p t positives negatives → Excludes (question_of p) t (negative_of p e) →
    SuitsExamples p t positives (negatives ++ e ∷ [])
with_negative p t positives negatives e suits excludes =
    let q = question_of p in
    let all = All-push (Excludes q t) (negatives_of p negatives) (negative_of p e) suits.excludes excludes in
    record { covers = suits.covers; excludes = rw (map-append (negative_of p) negatives (e ∷ [])) all }

-- no examples, no turns, and a transformer
pub started : (p : Problem) (t : List Term) → IsTransformerOf p t → SuitsExamples p t [] [] →
    IsUnderway p p.turns (record { trace = []; state = record { positives = []; negatives = [] }; term = t })
started p t derivable suits = record {
  within = record { valid = tt; few = omega arith };
  state = refl;
  candidate = record { derivable = derivable; suits = suits };
}

module _ (p : Problem) (s : Synthesis) (underway : IsUnderway p p.turns s) where
  -- what the examples are
  pub shown : AreShown p (length s.trace) s.state
  shown = subst (AreShown p (length s.trace)) (sym underway.state) (traces_show p s.trace underway.within.valid)

  -- the examples may be compared
  pub compared : AreCompared p s.term s.state.positives s.state.negatives
  compared = record {
    transformer = underway.candidate.derivable;
    stored = record {
      positives = shown.rows.positives;
      negatives = shown.rows.negatives;
      few = omega (arith, shown.few, underway.within.few);
    };
  }

  -- with another positive one they may be fitted
  pub fitted : (e : Positive) → IsPositive p e → AreFitted p (s.state.positives ++ e ∷ []) s.state.negatives
  fitted e is = record {
    positives = All-push (IsPositive p) s.state.positives e shown.rows.positives is;
    negatives = shown.rows.negatives;
    few = omega (arith, shown.few, underway.within.few, length-append s.state.positives (e ∷ []));
  }

  -- a turn that fits the examples makes the trace longer
  pub longer : (t : Turn) → IsTurn p s.state t → IsTraceWithin p (p.turns + 1) (s.trace ++ t ∷ [])
  longer t turn = record {
    valid = (traces_grow p s.trace t underway.within.valid (subst (λ x. IsTurn p x t) underway.state turn)).0;
    few = omega (arith, underway.within.few, length-append s.trace (t ∷ []));
  }

  -- what the examples are after it
  pub further : (t : Turn) → IsTurn p s.state t → after_turn s.state t ≡ after_trace (s.trace ++ t ∷ [])
  further t turn =
      ap (λ x. after_turn x t) underway.state
      ∙ sym (traces_grow p s.trace t underway.within.valid (subst (λ x. IsTurn p x t) underway.state turn)).1

  -- a positive turn, and a transformer that satisfies the kept examples
  pub after_positive : (e : Positive) (kept : List ℕ) (t : List Term) → IsUncovered p s.term e →
      AreKept p (s.state.positives ++ e ∷ []) s.state.negatives kept → IsTransformerOf p t →
      SuitsExamples p t (s.state.positives ++ e ∷ []) (at_places s.state.negatives kept) →
      IsUnderway p (p.turns + 1) (record {
        trace = s.trace ++ PositiveTurn s.term e kept ∷ [];
        state = record { positives = s.state.positives ++ e ∷ []; negatives = at_places s.state.negatives kept };
        term = t;
      })
  after_positive e kept t uncovered are derivable suits =
      let turn : IsTurn p s.state (PositiveTurn s.term e kept) = (underway.candidate, uncovered, are) in
      record {
        within = longer (PositiveTurn s.term e kept) turn;
        state = further (PositiveTurn s.term e kept) turn;
        candidate = record { derivable = derivable; suits = suits };
      }

  -- a negative turn, and another transformer that satisfies its example too
  pub after_negative : (e : Negative) (t : List Term) → IsSound (question_of p) s.term → IsAdmitted p s.term e →
      IsTransformerOf p t → SuitsExamples p t s.state.positives (s.state.negatives ++ e ∷ []) →
      IsUnderway p (p.turns + 1) (record {
        trace = s.trace ++ NegativeTurn s.term e ∷ [];
        state = record { positives = s.state.positives; negatives = s.state.negatives ++ e ∷ [] };
        term = t;
      })
  after_negative e t sound admitted derivable suits =
      let turn : IsTurn p s.state (NegativeTurn s.term e) =
      (underway.candidate, sound, admitted, (t, derivable, suits)) in
      record {
        within = longer (NegativeTurn s.term e) turn;
        state = further (NegativeTurn s.term e) turn;
        candidate = record { derivable = derivable; suits = suits };
      }

  -- a positive turn where no transformer satisfies the positive examples, so that nothing is kept
  pub nothing_kept : (e : Positive) → IsUncovered p s.term e →
      NoneSatisfies (question_of p) (positives_of p (s.state.positives ++ e ∷ [])) [] →
      IsTurn p s.state (PositiveTurn s.term e [])
  nothing_kept e uncovered none = (
    underway.candidate,
    uncovered,
    (nothing_is_kept p (s.state.positives ++ e ∷ []) s.state.negatives (length s.state.negatives) []
        (λ some. none some.0 some.1 some.2)).1 refl,
  )

-- another turn leaves fewer
pub fewer_left : (p : Problem) (s : Synthesis) (next : Next) → IsUnderway p p.turns s →
    IsNextTurn p s.trace next → turns_left p next < turns_left p (NextTurn s)
fewer_left p s (NextTurn further) underway is =
    let more = ap length is.1.1 in
    omega (arith, underway.within.few, more, length-append s.trace (is.1.0 ∷ []))
fewer_left p s (End o) underway is = omega (arith, underway.within.few)

-- what comes next is right, and loses no turn
pub next_is_right : (p : Problem) (trace : List Turn) (next : Next) → IsNextTurn p trace next → IsRightNext p next
next_is_right p trace (NextTurn s) is = is.0
next_is_right p trace (End o) is = is.0

pub next_goes_on : (p : Problem) (trace : List Turn) (next : Next) → IsNextTurn p trace next →
    GoesOn trace (trace_so_far next)
next_goes_on p trace (NextTurn s) is = (is.1.0 ∷ [], is.1.1)
next_goes_on p trace (End o) (is, inl same) = ([], same ∙ sym (append-nil trace))
next_goes_on p trace (End o) (is, inr (t, more)) = (t ∷ [], more)

-- turns that go on by turns that go on
pub goes_on_further : (a b c : List Turn) → GoesOn a b → GoesOn b c → GoesOn a c
goes_on_further a b c (more, is) (further, then) =
    (more ++ further, then ∙ ap (λ x. x ++ further) is ∙ append_assoc a more further)
