-- How a selection of negative examples grows by one decision.
use Rattle.std.proofs.Common.{◌≡◌, ℕ, ◌+◌, ◌<◌, List, [], ◌∷◌, ◌++◌, length, subst, arith, length-append}
use Rattle.std.specs.Prelude.{Some, slice_get}
use Rattle.std.proofs.lemmas.List.{map-append}
use Rattle.std.proofs.lemmas.List.Elements.{All-push}
use Rattle.std.proofs.lemmas.Option.{get_or_from_slice_get, slice_get_within}
use Rattle.am_bv.specs.declared.term.Term.{Term}
use Rattle.am_domain.specs.Examples.{Excludes, NoneSatisfies}
use Rattle.am_problem.specs.Examples.{IsNegative, negative_of, negatives_of, positives_of}
use Rattle.am_problem.specs.Problem.{question_of}
use Rattle.am_problem.specs.declared.examples.Negative.{Negative}
use Rattle.am_query.proofs.Laws.{kept_grow, places_grow}
use Rattle.am_query.specs.Queries.{AreFitted, AreStored}
use Rattle.am_query.specs.Transformers.{IsTransformerOf, SuitsExamples}
use Rattle.am_query.specs.Turns.{at_places}
use Rattle.am_drop.specs.declared.keeper.Keeper.{Keeper}
use Rattle.am_drop.specs.declared.keeper.Selection.{Selection}
use Rattle.am_drop.specs.inside.Selections.{IsKeeper, IsSelection}

-- the example at a place is one of the problem
pub example : (k : Keeper) → IsKeeper k → (n : ℕ) (e : Negative) → slice_get k.neg.now n ≡ Some e →
    IsNegative k.problem.now e
example k keeper n e at =
    let there = keeper.examples.negatives n e (slice_get_within k.neg.now n e at) in
    subst (IsNegative k.problem.now) (get_or_from_slice_get k.neg.now n e e at) there

-- where the transformer at hand satisfies a further example, it satisfies all
pub suits_further : (k : Keeper) (n : ℕ) (e : Negative) → slice_get k.neg.now n ≡ Some e → (s : Selection) →
    IsSelection k n s → Excludes (question_of k.problem.now) s.term (negative_of k.problem.now e) →
    SuitsExamples k.problem.now s.term k.pos.now (at_places k.neg.now (s.places ++ n ∷ []))
suits_further k n e at s selected excluded =
    let before = at_places k.neg.now s.places in
    let all = All-push (Excludes (question_of k.problem.now) s.term) (negatives_of k.problem.now before)
    (negative_of k.problem.now e) selected.suits.excludes excluded in
    rw (places_grow k.neg.now s.places n e at, map-append (negative_of k.problem.now) before (e ∷ []))
    (record { covers = selected.suits.covers; excludes = all })

-- an example isn't selected where no transformer satisfies it beside the selected ones
pub not_selected : (k : Keeper) (n : ℕ) (s : Selection) → IsSelection k n s →
    NoneSatisfies (question_of k.problem.now) (positives_of k.problem.now k.pos.now)
    (negatives_of k.problem.now (at_places k.neg.now (s.places ++ n ∷ []))) →
    IsSelection k (n + 1) s
not_selected k n s selected none = record {
  kept = (kept_grow k.problem.now k.pos.now k.neg.now n s.places selected.kept).1 (λ some. none some.0 some.1 some.2);
  derivable = selected.derivable;
  suits = selected.suits;
  stored = record {
    positives = selected.stored.positives;
    negatives = selected.stored.negatives;
    few = omega (arith, selected.stored.few);
  };
}

module _ (k : Keeper) (keeper : IsKeeper k) (n : ℕ) (e : Negative) (at : slice_get k.neg.now n ≡ Some e)
    (s : Selection) (selected : IsSelection k n s) where
  stored_further : AreStored k.problem.now (length k.pos.now + (n + 1)) k.pos.now
      (at_places k.neg.now (s.places ++ n ∷ []))
  stored_further =
      let before = at_places k.neg.now s.places in
      rw (places_grow k.neg.now s.places n e at) (record {
        positives = keeper.examples.positives;
        negatives = All-push (IsNegative k.problem.now) before e selected.stored.negatives (example k keeper n e at);
        few = omega (arith, selected.stored.few, length-append before (e ∷ []));
      })

  -- the selected examples and a further one may be asked about
  pub fitted_further : n < length k.neg.now →
      AreFitted k.problem.now k.pos.now (at_places k.neg.now (s.places ++ n ∷ []))
  fitted_further within = record {
    positives = stored_further.positives;
    negatives = stored_further.negatives;
    few = omega (arith, stored_further.few, keeper.examples.few, within);
  }

  -- a further example is selected with a transformer that satisfies it beside the selected ones
  pub selected_further : (term : List Term) → IsTransformerOf k.problem.now term →
      SuitsExamples k.problem.now term k.pos.now (at_places k.neg.now (s.places ++ n ∷ [])) →
      IsSelection k (n + 1) (record { places = s.places ++ n ∷ []; term = term })
  selected_further term derivable suits = record {
    kept = (kept_grow k.problem.now k.pos.now k.neg.now n s.places selected.kept).0 (term, derivable, suits);
    derivable = derivable;
    suits = suits;
    stored = stored_further;
  }
