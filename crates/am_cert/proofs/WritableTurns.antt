-- The turns of a valid trace can be written, and what is asked after them.
use Rattle.std.proofs.Common.{◌≡◌, ℕ, ◌+◌, ◌^◌, ◌<◌, ◌≤◌, List, [], ◌∷◌, ◌++◌, All, length, length-append, refl, ◌∙◌}
use Rattle.std.proofs.Common.{subst, sym, append_assoc, append-nil, arith, inl, inr}
use Rattle.std.proofs.lemmas.List.Kept.{AllPairs-from_increasing}
use Rattle.std.proofs.lemmas.List.Quantifiers.{all_pairs_push}
use Rattle.std.proofs.lemmas.Bool.{lt-ltb}
use Rattle.std.proofs.lemmas.List.Elements.{All-from_get_or, All-push, All-weaker}
use Rattle.am_bv.specs.declared.term.Term.{Term}
use Rattle.am_domain.specs.Tuple.{IsTuple}
use Rattle.am_syntax.specs.Pieces.{good_from, key_or, number}
use Rattle.am_problem.specs.Examples.{all_fields}
use Rattle.am_problem.specs.Limits.{IsProblem}
use Rattle.am_problem.specs.Problem.{Problem}
use Rattle.am_problem.specs.Texts.{named}
use Rattle.am_problem.specs.declared.examples.Positive.{Positive}
use Rattle.am_problem.proofs.Laws.{derivable_terms_fit}
use Rattle.am_query.specs.Transformers.{IsTransformerOf}
use Rattle.am_query.specs.Turns.{AreAskedPlaces, AreTurns, IsAsked, IsTrace, IsTurn, after_turn, after_turns}
use Rattle.am_query.specs.Turns.{after_trace, no_examples}
use Rattle.am_query.specs.declared.asked.Asked.{Asked}
use Rattle.am_query.specs.declared.asked.Asked.TheVariants.{Keep, Precise, Sound, Start}
use Rattle.am_query.specs.declared.state.State.{State}
use Rattle.am_query.specs.declared.turn.Turn.{Turn}
use Rattle.am_query.specs.declared.turn.Turn.TheVariants.{Negative as NegativeTurn, Positive as PositiveTurn}
use Rattle.am_cert.specs.Grammar.{ProblemShape, asked, negative_count, negatives_after, negatives_from, places}
use Rattle.am_cert.specs.Grammar.{result_term}
use Rattle.am_cert.specs.Grammar.{shape_of, terms, turn, turns, word, words}
use Rattle.am_cert.proofs.Items.{good_from_all}
use Rattle.am_cert.proofs.Rising.{AreBelow, Rises, as_many_at, rising_are_few, rising_are_good}
use Rattle.am_cert.proofs.Sized.{transformers_are_small}

-- one turn more
negatives_from-push : (count : ℕ) (seen : List Turn) (t : Turn) →
    negatives_from count (seen ++ t ∷ []) ≡ negatives_after (negatives_from count seen) t
negatives_from-push count [] t = refl
negatives_from-push count (u ∷ seen) t = negatives_from-push (negatives_after count u) seen t

module _ (p : Problem) (is : IsProblem p) where
  abbrev s : ProblemShape
  s = shape_of (named p)

  -- ---- terms and rows

  -- the terms of a transformer
  pub good_terms : (t : List Term) → IsTransformerOf p t → (terms (shape_of (named p))).Good t
  good_terms t derivable =
      let fit = derivable_terms_fit p is.formed t derivable in
      let small = transformers_are_small p is.formed t derivable in
      let each : All (result_term s).Good t =
      λ i d l. record { fit = fit.fit i d l; few = (small i d l).few; flat = (small i d l).flat } in
      (fit.counted, good_from_all (λ _. result_term s) (result_term s).Good (λ _ x h. h) [] t each)

  good_word : (n : ℕ) → n < 2 ^ p.width → (word (shape_of (named p))).Good n
  unfolding number
  good_word n below = (omega arith, omega (arith, below))

  -- so many words
  pub good_words : (count : ℕ) (row : List ℕ) → IsTuple p.width count row →
      (words (shape_of (named p)) count).Good row
  good_words count row tuple =
      let each = All-from_get_or (λ n. n < 2 ^ p.width) row 0 (λ i l. tuple.words i) in
      (tuple.counted, good_from_all (λ _. word s) (λ n. n < 2 ^ p.width) (λ _ n h. good_word n h) [] row each)

  -- ---- turns

  -- the negative examples after some turns
  record IsSeen (seen : List Turn) (so_far : State) : Type 0 where
    counted : negative_count seen ≡ length so_far.negatives
    few : length so_far.negatives ≤ length seen

  seen_more : (seen : List Turn) (so_far : State) (t : Turn) → IsSeen seen so_far → IsTurn p so_far t →
      IsSeen (seen ++ t ∷ []) (after_turn so_far t)
  seen_more seen so_far (PositiveTurn t e kept) known turn =
      let same = as_many_at so_far.negatives kept turn.2.below in
      record {
        counted = negatives_from-push 0 seen (PositiveTurn t e kept) ∙ sym same;
        few = omega (
          arith,
          same,
          rising_are_few (length so_far.negatives) kept (AllPairs-from_increasing kept turn.2.rising) turn.2.below,
          known.few,
          length-append seen (PositiveTurn t e kept ∷ []),
        );
      }
  seen_more seen so_far (NegativeTurn t e) known turn = record {
    counted =
        negatives_from-push 0 seen (NegativeTurn t e)
        ∙ omega (arith, known.counted, length-append so_far.negatives (e ∷ []));
    few = omega (
      arith,
      known.few,
      length-append so_far.negatives (e ∷ []),
      length-append seen (NegativeTurn t e ∷ []),
    );
  }

  good_kept : (seen : List Turn) (so_far : State) (kept : List ℕ) → IsSeen seen so_far → length seen ≤ 2 ^ 32 →
      Rises kept → AreBelow (length so_far.negatives) kept → (places (negative_count seen)).Good kept
  good_kept seen so_far kept known few rises below =
      let inside : AreBelow (negative_count seen) kept =
      subst (λ (n : ℕ). AreBelow n kept) (sym known.counted) below in
      rising_are_good (negative_count seen) (omega (arith, known.counted, known.few, few)) kept rises inside

  good_turn : (most : ℕ) (seen : List Turn) (so_far : State) (t : Turn) → most ≤ 2 ^ 32 → IsSeen seen so_far →
      length seen < most → IsTurn p so_far t → (turn (shape_of (named p)) most seen).Good t
  unfolding turn
  good_turn most seen so_far (PositiveTurn t e kept) few known room turn =
      let few_seen : length seen ≤ 2 ^ 32 = omega (arith, few, room) in (
        lt-ltb _ _ room,
        (
          good_terms t turn.0.derivable,
          (
            good_words (all_fields p) e.inputs turn.1.stored.row,
            (
              good_words p.inputs e.words turn.1.stored.words,
              good_kept seen so_far kept known few_seen (AllPairs-from_increasing kept turn.2.rising) turn.2.below,
            ),
          ),
        ),
      )
  good_turn most seen so_far (NegativeTurn t e) few known room turn = (
    lt-ltb _ _ room,
    (
      good_terms t turn.0.derivable,
      (good_words (all_fields p) e.inputs turn.2.stored.row, good_word e.word turn.2.stored.word),
    ),
  )

  good_turns : (most : ℕ) (seen : List Turn) (so_far : State) (rest : List Turn) → most ≤ 2 ^ 32 →
      IsSeen seen so_far →
      AreTurns p so_far rest → length seen + length rest ≤ most → good_from (turn (shape_of (named p)) most) seen rest
  good_turns most seen so_far [] few known turns room = tt
  good_turns most seen so_far (t ∷ rest) few known turns room =
      let further : length (seen ++ t ∷ []) + length rest ≤ most =
      omega (arith, length-append seen (t ∷ []), room) in (
        good_turn most seen so_far t few known (omega (arith, room)) turns.0,
        good_turns most (seen ++ t ∷ []) (after_turn so_far t) rest few
            (seen_more seen so_far t known turns.0) turns.1 further,
      )

  none_seen : IsSeen [] no_examples
  none_seen = record { counted = refl; few = omega arith }

  -- the turns of a valid trace
  pub good_trace : (most : ℕ) (trace : List Turn) → most ≤ 2 ^ 32 → IsTrace p trace → length trace ≤ most →
      (turns (shape_of (named p)) most).Good trace
  unfolding turns
  good_trace most trace few is_trace room =
      good_turns most [] no_examples trace few none_seen is_trace (omega (arith, room))

  -- ---- what is asked

  -- after a whole trace
  trace_seen : (seen : List Turn) (so_far : State) (rest : List Turn) → IsSeen seen so_far → AreTurns p so_far rest →
      IsSeen (seen ++ rest) (after_turns so_far rest)
  trace_seen seen so_far [] known turns = subst (λ ts. IsSeen ts so_far) (sym (append-nil seen)) known
  trace_seen seen so_far (t ∷ rest) known turns =
      let all = trace_seen (seen ++ t ∷ []) (after_turn so_far t) rest
      (seen_more seen so_far t known turns.0) turns.1 in
      subst (λ ts. IsSeen ts (after_turns so_far (t ∷ rest))) (append_assoc seen (t ∷ []) rest) all

  -- places that are asked about
  good_asked_places : (trace : List Turn) (positives : List Positive) (ns : List ℕ) → length trace ≤ 2 ^ 32 →
      IsTrace p trace → AreAskedPlaces p positives (after_trace trace).negatives ns →
      (places (negative_count trace)).Good ns
  good_asked_places trace positives ns few is_trace (inl none) =
      subst (places (negative_count trace)).Good (sym none) tt
  good_asked_places trace positives ns few is_trace (inr h) =
      let so_far = after_trace trace in
      let count = length so_far.negatives in
      let rises = all_pairs_push (λ i j. i < j) h.0 h.1 (AllPairs-from_increasing h.0 h.4.rising) h.4.below in
      let less = All-weaker (λ i. i < h.1) (λ i. i < count) (λ i l. omega (arith, l, h.3)) h.0 h.4.below in
      let inside = All-push (λ i. i < count) h.0 h.1 less h.3 in
      let known = trace_seen [] no_examples trace none_seen is_trace in
      subst (places (negative_count trace)).Good (sym h.2)
      (good_kept trace so_far (h.0 ++ h.1 ∷ []) known few rises inside)

  -- what is asked after a valid trace can be written
  pub good_asked : (trace : List Turn) (a : Asked) → length trace ≤ 2 ^ 32 → IsTrace p trace → IsAsked p trace a →
      (asked (shape_of (named p)) trace).Good a
  unfolding asked key_or
  good_asked trace Start few is_trace h = tt
  good_asked trace (Keep t e ns) few is_trace h = (
    good_terms t h.0.derivable,
    (
      good_words (all_fields p) e.inputs h.1.stored.row,
      (good_words p.inputs e.words h.1.stored.words, good_asked_places trace _ ns few is_trace h.2),
    ),
  )
  good_asked trace (Sound t) few is_trace h = good_terms t h.derivable
  good_asked trace (Precise t) few is_trace h = good_terms t h.0.derivable
