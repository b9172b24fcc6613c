-- How a synthesis ends.
use Rattle.std.proofs.Common.{◌≡◌, ℕ, ◌+◌, ◌*◌, ◌^◌, ◌<◌, ◌≤◌, true, List, [], ◌∷◌, ◌++◌, length, refl, ap, subst}
use Rattle.std.proofs.Common.{arith}
use Rattle.std.proofs.lemmas.List.Elements.{All-map}
use Rattle.am_chain.specs.declared.chain.Chain.{Chain}
use Rattle.am_domain.specs.Examples.{IsTrueExample, IsValidExample, NoneIsCloser, NoneSatisfies}
use Rattle.am_domain.specs.Question.{IsSound}
use Rattle.am_domain.proofs.Laws.{none_betters, none_is_sound}
use Rattle.am_problem.specs.Examples.{negative_of, negatives_of, positive_of, positives_of}
use Rattle.am_problem.specs.Problem.{Problem, question_of}
use Rattle.am_problem.specs.declared.examples.Positive.{Positive}
use Rattle.am_tree.specs.Counts.{tuple_count}
use Rattle.am_query.specs.Answers.{IsRefuted, IsSpentOn}
use Rattle.am_query.specs.Queries.{input_count}
use Rattle.am_query.specs.Transformers.{IsUncovered}
use Rattle.am_query.specs.Turns.{AreAskedPlaces, IsAsked, IsCandidate, after_trace, at_places, query_of}
use Rattle.am_query.specs.declared.asked.Asked.{Asked}
use Rattle.am_query.specs.declared.asked.Asked.TheVariants.{Keep, Precise as PreciseAsked, Sound as SoundAsked, Start}
use Rattle.am_query.specs.declared.outcome.Outcome.{Outcome}
use Rattle.am_query.specs.declared.outcome.Outcome.TheVariants.{Absent, Best, Conflicts, Turns}
use Rattle.am_query.specs.declared.query.Query.TheVariants.{Fit, Precise, Sound}
use Rattle.am_query.specs.declared.state.State.{State}
use Rattle.am_query.specs.declared.turn.Turn.{Turn}
use Rattle.am_query.specs.declared.turn.Turn.TheVariants.{Positive as PositiveTurn}
use Rattle.am_query.proofs.Laws.{absent_is_accepted, best_is_accepted, traces_show, turns_are_few}
use Rattle.am_dual.specs.Synthesis.{AreTurnsSpent, IsSynthesis, IsTraceWithin}
use Rattle.am_dual.specs.declared.turns.Synthesis.{Synthesis}
use Rattle.am_dual.specs.inside.Underway.{IsEnd, IsUnderway, NothingSuits}
use Rattle.am_dual.proofs.Inputs.{enough_for}
use Rattle.am_dual.proofs.Turning.{further, longer, nothing_kept, shown}

-- a sound transformer at hand to which none is closer is best
pub best_ends : (p : Problem) (s : Synthesis) (sound_log best_log : List Chain) → IsUnderway p p.turns s →
    IsSound (question_of p) s.term → IsRefuted p (Sound s.term) p.conflicts sound_log →
    NoneIsCloser (question_of p) s.term (positives_of p s.state.positives) (negatives_of p s.state.negatives) →
    IsRefuted p (Precise s.term s.state.positives s.state.negatives) p.conflicts best_log →
    IsEnd p (Best s.term s.trace sound_log best_log)
best_ends p s sound_log best_log underway sound sound_refuted none best_refuted =
    let q = question_of p in
    let is = shown p s underway in
    let refuted = subst (λ (x : State). IsRefuted p (Precise s.term x.positives x.negatives) p.conflicts best_log)
    underway.state best_refuted in
    record {
      right = (
        none_betters q s.term (positives_of p s.state.positives) (negatives_of p s.state.negatives)
            underway.candidate.derivable sound
            (All-map (IsTrueExample q) (positive_of p) s.state.positives is.true)
            (All-map (IsValidExample q) (negative_of p) s.state.negatives is.valid)
            underway.candidate.suits.excludes none,
        best_is_accepted true p s.term s.trace sound_log best_log underway.within.valid
            (subst (λ (x : State). IsCandidate p x s.term) underway.state underway.candidate)
            sound_refuted.refutes refuted.refutes,
        underway.within,
        sound_refuted,
        refuted,
      );
      enough = λ h spent. spent;
    }

-- where no transformer satisfies the positive examples after a trace, none is sound
pub absence_ends : (p : Problem) (trace : List Turn) (log : List Chain) → NothingSuits p p.turns trace log →
    IsEnd p (Absent trace log)
absence_ends p trace log nothing =
    let q = question_of p in
    let positives = (after_trace trace).positives in
    let are_true =
    All-map (IsTrueExample q) (positive_of p) positives (traces_show p trace nothing.within.valid).true in
    record {
      right = (
        none_is_sound q (positives_of p positives) are_true nothing.nothing,
        absent_is_accepted true p trace log nothing.within.valid nothing.refuted.refutes,
        nothing.within,
        nothing.refuted,
      );
      enough = λ h spent. spent;
    }

-- where none satisfies no examples, nothing derives
pub nothing_starts : (p : Problem) (log : List Chain) → NoneSatisfies (question_of p) [] [] →
    IsRefuted p (Fit [] []) p.conflicts log → NothingSuits p p.turns [] log
nothing_starts p log none refuted = record {
  within = record { valid = tt; few = omega arith };
  nothing = none;
  refuted = refuted;
}

-- where none satisfies another positive example beside those before it, nothing is kept, and nothing suits
pub nothing_suits : (p : Problem) (s : Synthesis) (e : Positive) (log : List Chain) → IsUnderway p p.turns s →
    IsUncovered p s.term e →
    NoneSatisfies (question_of p) (positives_of p (s.state.positives ++ e ∷ [])) [] →
    IsRefuted p (Fit (s.state.positives ++ e ∷ []) []) p.conflicts log →
    NothingSuits p (p.turns + 1) (s.trace ++ PositiveTurn s.term e [] ∷ []) log
nothing_suits p s e log underway uncovered none refuted =
    let turn = PositiveTurn s.term e [] in
    let is = nothing_kept p s underway e uncovered none in
    let after : s.state.positives ++ e ∷ [] ≡ (after_trace (s.trace ++ turn ∷ [])).positives =
    ap (λ (x : State). x.positives) (further p s underway turn is) in
    record {
      within = longer p s underway turn is;
      nothing = subst (λ (es : List Positive). NoneSatisfies (question_of p) (positives_of p es) []) after none;
      refuted = subst (λ (es : List Positive). IsRefuted p (Fit es []) p.conflicts log) after refuted;
    }

-- a query that is asked after the turns, for which the derived clauses were spent
spent_ends : (p : Problem) (trace : List Turn) (asked : Asked) (log : List Chain) → IsTraceWithin p p.turns trace →
    IsAsked p trace asked → IsSpentOn p (query_of (after_trace trace) asked) p.conflicts log →
    ¬ (3 ^ input_count p (query_of (after_trace trace) asked) ≤ p.conflicts) → IsEnd p (Conflicts trace asked log)
spent_ends p trace asked log within is spent few = record {
  right = (within, is, spent);
  enough = λ h t. few (enough_for p (query_of (after_trace trace) asked) h);
}

-- the first fit
pub start_spent : (p : Problem) (log : List Chain) → IsSpentOn p (Fit [] []) p.conflicts log →
    ¬ (3 ^ input_count p (Fit [] []) ≤ p.conflicts) → IsEnd p (Conflicts [] Start log)
start_spent p log spent few = spent_ends p [] Start log (record { valid = tt; few = omega arith }) refl spent few

module _ (p : Problem) (s : Synthesis) (log : List Chain) (underway : IsUnderway p p.turns s) where
  -- the soundness of the transformer at hand
  pub sound_spent : IsSpentOn p (Sound s.term) p.conflicts log → ¬ (3 ^ input_count p (Sound s.term) ≤ p.conflicts) →
      IsEnd p (Conflicts s.trace (SoundAsked s.term) log)
  sound_spent spent few =
      let candidate = subst (λ (x : State). IsCandidate p x s.term) underway.state underway.candidate in
      spent_ends p s.trace (SoundAsked s.term) log underway.within candidate spent few

  -- its precision
  pub precise_spent : IsSound (question_of p) s.term →
      IsSpentOn p (Precise s.term s.state.positives s.state.negatives) p.conflicts log →
      ¬ (3 ^ input_count p (Precise s.term s.state.positives s.state.negatives) ≤ p.conflicts) →
      IsEnd p (Conflicts s.trace (PreciseAsked s.term) log)
  precise_spent sound spent few =
      let asked = PreciseAsked s.term in
      let candidate = subst (λ (x : State). IsCandidate p x s.term) underway.state underway.candidate in
      let on = subst (λ (x : State). IsSpentOn p (query_of x asked) p.conflicts log) underway.state spent in
      spent_ends p s.trace asked log underway.within (candidate, sound) on few

  -- the fit of another positive example and some of the negative ones
  pub keep_spent : (e : Positive) (places : List ℕ) → IsUncovered p s.term e →
      AreAskedPlaces p (s.state.positives ++ e ∷ []) s.state.negatives places →
      IsSpentOn p (Fit (s.state.positives ++ e ∷ []) (at_places s.state.negatives places)) p.conflicts log →
      ¬ (3 ^ input_count p (Fit (s.state.positives ++ e ∷ []) s.state.negatives) ≤ p.conflicts) →
      IsEnd p (Conflicts s.trace (Keep s.term e places) log)
  keep_spent e places uncovered are spent few =
      let asked = Keep s.term e places in
      let candidate = subst (λ (x : State). IsCandidate p x s.term) underway.state underway.candidate in
      let places_asked =
      subst (λ (x : State). AreAskedPlaces p (x.positives ++ e ∷ []) x.negatives places) underway.state are in
      let on = subst (λ (x : State). IsSpentOn p (query_of x asked) p.conflicts log) underway.state spent in
      spent_ends p s.trace asked log underway.within (candidate, uncovered, places_asked) on few

-- one turn more than may be spent
pub turns_end : (p : Problem) (trace : List Turn) → IsTraceWithin p (p.turns + 1) trace → p.turns < length trace →
    IsEnd p (Turns trace)
turns_end p trace within more = record {
  right = (within.valid, omega (arith, within.few));
  enough = λ h spent. spent;
}

-- where enough turns may be made, they aren't spent
pub turns_suffice : (p : Problem) (o : Outcome) → IsSynthesis p o →
    let k = tuple_count p.rules p.starts p.depth in k * (k + 1) ≤ p.turns → ¬ AreTurnsSpent o
turns_suffice p (Best t trace sound_log best_log) is enough spent = spent
turns_suffice p (Absent trace log) is enough spent = spent
turns_suffice p (Turns trace) is enough spent = absurd (omega (arith, enough, is.1, turns_are_few p trace is.0))
turns_suffice p (Conflicts trace asked log) is enough spent = spent
