-- How long a trace can be: transformers that were tried don't come again.
use Rattle.std.proofs.Common.{◌≢◌, ℕ, suc, ◌+◌, ◌*◌, ◌<◌, ◌≤◌, List, [], ◌∷◌, ◌++◌, length, map, subst}
use Rattle.std.proofs.Common.{arith, length-append}
use Rattle.std.specs.List.{All}
use Rattle.std.proofs.lemmas.List.{get_or_append_left, map-append}
use Rattle.std.proofs.lemmas.List.Elements.{All-append, All-contains, All-cons, All-nil, All-weaker, Contains-push}
use Rattle.std.proofs.lemmas.Nat.{mul-le}
use Rattle.am_bv.specs.declared.term.Term.{Term}
use Rattle.am_domain.specs.Examples.{Covers, Excludes}
use Rattle.am_domain.specs.Question.{IsSound}
use Rattle.am_domain.proofs.Laws.{sound_covers}
use Rattle.am_problem.specs.Examples.{negative_of, negatives_of, positive_of, positives_of}
use Rattle.am_problem.specs.Problem.{Problem, question_of}
use Rattle.am_problem.proofs.Laws.{AreDifferent, different-append, different_transformers_are_few}
use Rattle.am_tree.specs.Counts.{tuple_count}
use Rattle.am_query.specs.Transformers.{IsTransformerOf}
use Rattle.am_query.specs.TurnLaws.{TurnsAreFew}
use Rattle.am_query.specs.Turns.{AreTurns, after_turn, no_examples}
use Rattle.am_query.specs.declared.state.State.{State}
use Rattle.am_query.specs.declared.turn.Turn.{Turn}
use Rattle.am_query.specs.declared.turn.Turn.TheVariants.{Negative as NegativeTurn, Positive as PositiveTurn}

-- what holds of all examples holds of all but the last, and of the last
all_front : {A B : Type 0} (P : B → Type 0) (f : A → B) (xs : List A) (x : A) → All P (map f (xs ++ x ∷ [])) →
    All P (map f xs)
all_front P f xs x h = λ k d within.
    let same = get_or_append_left (map f xs) (f x ∷ []) d k within in
    let further : k < length (map f xs ++ f x ∷ []) = omega (arith, within, length-append (map f xs) (f x ∷ [])) in
    subst P same ((rw (map-append f xs (x ∷ [])) at h) k d further)

all_last : {A B : Type 0} (P : B → Type 0) (f : A → B) (xs : List A) (x : A) → All P (map f (xs ++ x ∷ [])) → P (f x)
all_last P f xs x h =
    All-contains P (map f xs ++ f x ∷ []) (f x) (rw (map-append f xs (x ∷ [])) at h) (Contains-push (map f xs) (f x))

-- the arithmetic
at_end : (k u v : ℕ) → v + u ≤ k → v + u * (k + 1) ≤ k * (k + 1)
at_end k u v h =
    let most : u * k ≤ k * k = mul-le u k k k (omega arith) (omega arith) in
    omega arith

on_from_positive : (k u v n : ℕ) → v + u ≤ k → n + (u + 1) * (k + 1) ≤ k * (k + 1) →
    suc n + v + u * (k + 1) ≤ k * (k + 1)
on_from_positive k u v n h step = omega arith

module _ (p : Problem) where
  -- Transformers that were tried: all different, and none of them passes.
  record AreTried (Passes Kind : List Term → Type 0) (tried : List (List Term)) : Type 0 where
    different : AreDifferent tried
    derive : All (IsTransformerOf p) tried
    fail : All (λ t. ¬ Passes t) tried
    kind : All Kind tried

  none_tried : (Passes Kind : List Term → Type 0) → AreTried Passes Kind []
  none_tried Passes Kind = record {
    different = tt;
    derive = All-nil (IsTransformerOf p);
    fail = All-nil (λ t. ¬ Passes t);
    kind = All-nil Kind;
  }

  -- one that passes is new; where it fails from now on, it was tried too
  one_more : (Passes Later Kind : List Term → Type 0) (tried : List (List Term)) (t : List Term) →
      AreTried Passes Kind tried →
      IsTransformerOf p t → Passes t → Kind t → ((u : List Term) → Later u → Passes u) → (¬ Later t) →
      AreTried Later Kind (t ∷ tried)
  one_more Passes Later Kind tried t are derives passes kind weaker fails = record {
    different = (
      All-weaker (λ u. ¬ Passes u) (λ u. t ≢ u) (λ u failed same. failed (subst Passes same passes)) tried are.fail,
      are.different,
    );
    derive = All-cons (IsTransformerOf p) t tried derives are.derive;
    fail = All-cons (λ u. ¬ Later u) t tried fails
        (All-weaker (λ u. ¬ Passes u) (λ u. ¬ Later u) (λ u failed later. failed (weaker u later)) tried are.fail);
    kind = All-cons Kind t tried kind are.kind;
  }

  abbrev CoversAll : State → List Term → Type 0
  CoversAll s t = All (Covers (question_of p) t) (positives_of p s.positives)

  abbrev ExcludesAll : State → List Term → Type 0
  ExcludesAll s t = All (Excludes (question_of p) t) (negatives_of p s.negatives)

  -- The transformers of all positive turns so far, none of which is sound, and those of the negative turns since the
  -- last positive one, which are sound.
  record IsHistory (s : State) (unsound sound : List (List Term)) : Type 0 where
    unsound_tried : AreTried (CoversAll s) (λ t. ¬ IsSound (question_of p) t) unsound
    sound_tried : AreTried (ExcludesAll s) (IsSound (question_of p)) sound

  -- how many tuples of trees there are
  abbrev most : ℕ
  most = tuple_count p.rules p.starts p.depth

  -- they are different ones of those that derive
  history_few : (s : State) (unsound sound : List (List Term)) → IsHistory s unsound sound →
      length sound + length unsound ≤ most
  history_few s unsound sound h =
      let P = IsSound (question_of p) in
      let differ : AreDifferent (sound ++ unsound) =
      different-append sound unsound h.sound_tried.different h.unsound_tried.different
      (All-weaker P (λ t. All (λ u. t ≢ u) unsound)
      (λ t is. All-weaker (λ u. ¬ P u) (λ u. t ≢ u) (λ u is_not same. is_not (subst P same is))
      unsound h.unsound_tried.kind)
      sound h.sound_tried.kind) in
      let derive : All (IsTransformerOf p) (sound ++ unsound) =
      All-append (IsTransformerOf p) sound unsound h.sound_tried.derive h.unsound_tried.derive in
      let few = different_transformers_are_few p (sound ++ unsound) differ derive in
      omega (arith, few, length-append sound unsound)

  turns_few : (s : State) (turns : List Turn) (unsound sound : List (List Term)) → AreTurns p s turns →
      IsHistory s unsound sound →
      length turns + length sound + length unsound * (most + 1) ≤ most * (most + 1)
  turns_few s [] unsound sound turns h =
      let end = at_end most (length unsound) (length sound) (history_few s unsound sound h) in
      omega (arith, end)
  turns_few s (PositiveTurn t e kept ∷ ts) unsound sound turns h =
      let now = turns.0 in
      let after : State = after_turn s (PositiveTurn t e kept) in
      let is_not : ¬ IsSound (question_of p) t =
      λ is. now.1.fails (sound_covers (question_of p) t is (positive_of p e) now.1.true) in
      let further : IsHistory after (t ∷ unsound) [] = record {
        unsound_tried = one_more (CoversAll s) (CoversAll after) (λ u. ¬ IsSound (question_of p) u) unsound t
            h.unsound_tried
            now.0.derivable now.0.suits.covers is_not
            (λ u. all_front (Covers (question_of p) u) (positive_of p) s.positives e)
            (λ all. now.1.fails (all_last (Covers (question_of p) t) (positive_of p) s.positives e all));
        sound_tried = none_tried (ExcludesAll after) (IsSound (question_of p));
      } in
      let rest = turns_few after ts (t ∷ unsound) [] turns.1 further in
      let now_few = history_few s unsound sound h in
      on_from_positive most (length unsound) (length sound) (length ts) now_few (omega (arith, rest))
  turns_few s (NegativeTurn t e ∷ ts) unsound sound turns h =
      let now = turns.0 in
      let after : State = after_turn s (NegativeTurn t e) in
      let further : IsHistory after unsound (t ∷ sound) = record {
        unsound_tried = h.unsound_tried;
        sound_tried = one_more (ExcludesAll s) (ExcludesAll after) (IsSound (question_of p)) sound t h.sound_tried
            now.0.derivable now.0.suits.excludes now.1
            (λ u. all_front (Excludes (question_of p) u) (negative_of p) s.negatives e)
            (λ all. now.2.fails (all_last (Excludes (question_of p) t) (negative_of p) s.negatives e all));
      } in
      let rest = turns_few after ts unsound (t ∷ sound) turns.1 further in
      omega (arith, rest)

-- a trace of a problem with K tuples of trees has at most K * (K + 1) turns
pub turns_are_few : TurnsAreFew
turns_are_few p trace turns =
    let q = question_of p in
    let at_first : IsHistory p no_examples [] [] = record {
      unsound_tried = none_tried p (CoversAll p no_examples) (λ t. ¬ IsSound q t);
      sound_tried = none_tried p (ExcludesAll p no_examples) (IsSound q);
    } in
    let few = turns_few p no_examples trace [] [] turns at_first in
    omega (arith, few)
