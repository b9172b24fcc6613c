-- The examples after the turns of a certificate: rows of its problem, and no more than its turns.
use Rattle.std.proofs.Common.{◌≡◌, ℕ, ◌+◌, ◌-◌, ◌*◌, ◌^◌, ◌<◌, ◌≤◌, List, [], ◌∷◌, ◌++◌, length, refl, arith}
use Rattle.std.proofs.Common.{length-append}
use Rattle.std.proofs.lemmas.Bool.{ltb-true}
use Rattle.std.proofs.lemmas.List.Elements.{All-nil, All-push}
use Rattle.std.proofs.lemmas.Nat.{pow_pos}
use Rattle.am_bv.specs.Words.{AreWords}
use Rattle.am_domain.proofs.Laws.{AreWords-cons, AreWords-nil}
use Rattle.am_domain.specs.Tuple.{IsTuple}
use Rattle.am_problem.specs.Examples.{IsNegative, IsPositive}
use Rattle.am_problem.specs.Problem.{Problem}
use Rattle.am_problem.specs.Texts.{named}
use Rattle.am_query.proofs.Laws.{all_at}
use Rattle.am_query.specs.Queries.{AreStored}
use Rattle.am_query.specs.Turns.{AreRows, after_turn, after_turns, no_examples}
use Rattle.am_query.specs.declared.state.State.{State}
use Rattle.am_query.specs.declared.turn.Turn.{Turn}
use Rattle.am_query.specs.declared.turn.Turn.TheVariants.{Negative as NegativeTurn, Positive as PositiveTurn}
use Rattle.am_syntax.specs.Pieces.{good_from, number}
use Rattle.am_cert.specs.Grammar.{ProblemShape, negative_count, negatives_after, negatives_from, shape_of, turn, turns}
use Rattle.am_cert.specs.Grammar.{word, words}
use Rattle.am_cert.specs.inside.Verdicts.{AreStoredAfter}
use Rattle.am_cert.proofs.Placed.{few_places, length-placed}

-- the words of a row are words of the width
words_below : (s : ProblemShape) (seen xs : List ℕ) → good_from (λ _. word s) seen xs → AreWords s.width xs
unfolding number
words_below s seen [] good = AreWords-nil s.width
words_below s seen (c ∷ xs) good =
    let most : c ≤ 2 ^ s.width - 1 = good.0.1 in
    let below : c < 2 ^ s.width = omega (arith, most, pow_pos s.width) in
    AreWords-cons s.width c xs below (words_below s (seen ++ c ∷ []) xs good.1)

tuple_of : (s : ProblemShape) (count : ℕ) (xs : List ℕ) → (words s count).Good xs → IsTuple s.width count xs
tuple_of s count xs good = record { counted = good.0; words = words_below s [] xs good.1 }

word_below : (s : ProblemShape) (c : ℕ) → (word s).Good c → c < 2 ^ s.width
unfolding number
word_below s c good = let most : c ≤ 2 ^ s.width - 1 = good.1 in omega (arith, most, pow_pos s.width)

negatives_from-push : (n : ℕ) (seen : List Turn) (t : Turn) →
    negatives_from n (seen ++ t ∷ []) ≡ negatives_after (negatives_from n seen) t
negatives_from-push n [] t = refl
negatives_from-push n (u ∷ seen) t = negatives_from-push (negatives_after n u) seen t

module _ (p : Problem) where
  abbrev shape : ProblemShape
  shape = shape_of (named p)

  -- the examples after these turns: rows, as many negative ones as the turns say, and no more than the turns
  record AreAfter (seen : List Turn) (s : State) : Type 0 where
    rows : AreRows p s
    counted : length s.negatives ≡ negative_count seen
    few : length s.positives + length s.negatives ≤ length seen

  after_one : (most : ℕ) (seen : List Turn) (s : State) (t : Turn) → AreAfter seen s → (turn shape most seen).Good t →
      AreAfter (seen ++ t ∷ []) (after_turn s t)
  unfolding turn
  after_one most seen s (PositiveTurn t e kept) after good =
      let parts = good.1 in
      let row = tuple_of shape (shape.inputs * shape.fields) e.inputs parts.1.0 in
      let given = tuple_of shape shape.inputs e.words parts.1.1.0 in
      let rise = rw (← after.counted) at parts.1.1.1 in
      let placed = length-placed s.negatives [] kept rise in
      let most_kept = few_places (length s.negatives) [] kept (omega arith) rise in record {
        rows = record {
          positives = All-push (IsPositive p) s.positives e after.rows.positives (record { row = row; words = given });
          negatives = all_at (IsNegative p) s.negatives kept after.rows.negatives;
        };
        counted = rw (negatives_from-push 0 seen (PositiveTurn t e kept)) placed;
        few = omega (
          arith,
          after.few,
          placed,
          most_kept,
          length-append s.positives (e ∷ []),
          length-append seen (PositiveTurn t e kept ∷ []),
        );
      }
  after_one most seen s (NegativeTurn t e) after good =
      let parts = good.1 in
      let row = tuple_of shape (shape.inputs * shape.fields) e.inputs parts.1.0 in
      let below : e.word < 2 ^ p.width = word_below shape e.word parts.1.1 in record {
        rows = record {
          positives = after.rows.positives;
          negatives = All-push (IsNegative p) s.negatives e after.rows.negatives (record { row = row; word = below });
        };
        counted = rw (negatives_from-push 0 seen (NegativeTurn t e))
            (omega (arith, after.counted, length-append s.negatives (e ∷ [])));
        few = omega (
          arith,
          after.few,
          length-append s.negatives (e ∷ []),
          length-append seen (NegativeTurn t e ∷ []),
        );
      }

  -- one more turn may stand there
  allowed : (most : ℕ) (seen : List Turn) (t : Turn) → (turn shape most seen).Good t → length seen < most
  unfolding turn
  allowed most seen t good = ltb-true (length seen) most good.0

  after_all : (most : ℕ) (seen rest : List Turn) (s : State) → length seen ≤ most → AreAfter seen s →
      good_from (turn shape most) seen rest →
      let e = after_turns s rest in AreStored p most e.positives e.negatives
  after_all most seen [] s within after good = record {
    positives = after.rows.positives;
    negatives = after.rows.negatives;
    few = omega (arith, after.few, within);
  }
  after_all most seen (t ∷ rest) s within after good =
      let more : length (seen ++ t ∷ []) ≤ most =
      omega (arith, allowed most seen t good.0, length-append seen (t ∷ [])) in
      after_all most (seen ++ t ∷ []) rest (after_turn s t) more (after_one most seen s t after good.0) good.1

  none_after : AreAfter [] no_examples
  none_after = record {
    rows = record { positives = All-nil (IsPositive p); negatives = All-nil (IsNegative p) };
    counted = refl;
    few = omega arith;
  }

  -- the turns of a certificate leave rows of its problem, and no more than it has turns
  pub stored_after : (trace : List Turn) → (turns shape p.turns).Good trace → AreStoredAfter p trace
  unfolding turns
  stored_after trace good = after_all p.turns [] trace no_examples (omega arith) none_after good
