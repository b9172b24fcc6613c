-- Turns are spelled as they are read, and read as they are spelled.
use Rattle.std.proofs.Common.{◌≡◌, ℕ, ◌<◌, true, false, nat_lt, List, ◌++◌, length, codes, refl, arith, inl, inr}
use Rattle.std.specs.Prelude.{◌⊎◌}
use Rattle.am_query.specs.declared.turn.Turn.{Turn}
use Rattle.am_query.specs.declared.turn.Turn.TheVariants.{Negative as NegativeTurn, Positive as PositiveTurn}
use Rattle.am_syntax.specs.Exact.{IsExact, always}
use Rattle.am_syntax.specs.Pieces.{next_is, syntax}
use Rattle.am_syntax.specs.Readers.{Words}
use Rattle.am_syntax.proofs.Laws.{choice_law, keyed_law, one_more_law, repeat_law, seen_law, then_law}
use Rattle.am_cert.specs.Grammar.{CounterParts, ExampleParts, ProblemShape, counterexample, example, is_turn_next}
use Rattle.am_cert.specs.Grammar.{negative_count}
use Rattle.am_cert.specs.Grammar.{turn, turn_of, turn_parts, turns}
use Rattle.am_cert.specs.inside.Shapes.{IsProblemShape}
use Rattle.am_cert.proofs.RowLaws.{EndsNumbers, narrow_law, places_law, terms_law, word_law, words_law}

parts_of : (x : ExampleParts ⊎ CounterParts) → turn_parts (turn_of x) ≡ x
parts_of (inl x) = refl
parts_of (inr x) = refl

of_parts : (t : Turn) → turn_of (turn_parts t) ≡ t
of_parts (PositiveTurn t e kept) = refl
of_parts (NegativeTurn t e) = refl

-- neither a turn nor a row of digits comes
abbrev pub EndsTurns : Words → Type 0
EndsTurns rest = (is_turn_next rest ≡ false) × EndsNumbers rest

module _ (s : ProblemShape) (is : IsProblemShape s) where
  -- an example is read as it is spelled, and spelled as it is read
  pub example_law : (count : ℕ) → IsExact (example s count) EndsNumbers
  example_law count =
      then_law (terms_law s is) (λ _ _.
      then_law (keyed_law syntax (codes "in") (words_law s is _)) (λ _ _.
      then_law (keyed_law syntax (codes "word") (words_law s is _)) (λ _ _.
      keyed_law syntax (codes "kept") (places_law count))
      (λ _ _ _ _ _ _. tt)) (λ _ _ _ _ _ _. tt)) (λ _ _ _ _ _ _. tt)

  pub counterexample_law : IsExact (counterexample s) always
  counterexample_law =
      then_law (terms_law s is) (λ _ _.
      then_law (keyed_law syntax (codes "in") (words_law s is _)) (λ _ _.
      keyed_law syntax (codes "out") (word_law s is))
      (λ _ _ _ _ _ _. tt)) (λ _ _ _ _ _ _. tt)

  -- a turn is read as it is spelled, and spelled as it is read
  pub turn_law : (most : ℕ) (seen : List Turn) → IsExact (turn s most seen) EndsNumbers
  unfolding turn
  turn_law most seen =
      one_more_law (nat_lt (length seen) most)
      (seen_law turn_of turn_parts
      (choice_law (next_is (codes "positive")) (keyed_law syntax (codes "positive") (example_law (negative_count seen)))
      (narrow_law (keyed_law syntax (codes "negative") counterexample_law) (λ _ _. tt))
      (λ _ _ _. refl) (λ _ _ _. refl) (λ _ _ _. refl))
      (λ x good. parts_of x) of_parts)

  -- a turn takes a word at least
  pub turn_moves : (most : ℕ) (seen : List Turn) (t : Turn) → (turn s most seen).Good t →
      0 < length ((turn s most seen).spell t)
  unfolding turn
  turn_moves most seen (PositiveTurn t e kept) good = omega arith
  turn_moves most seen (NegativeTurn t e) good = omega arith

  turn_begins : (most : ℕ) (seen : List Turn) (t : Turn) (rest : Words) → (turn s most seen).Good t →
      is_turn_next ((turn s most seen).spell t ++ rest) ≡ true
  unfolding turn
  turn_begins most seen (PositiveTurn t e kept) rest good = refl
  turn_begins most seen (NegativeTurn t e) rest good = refl

  turn_next : (most : ℕ) (seen : List Turn) (t : Turn) (rest : Words) → (turn s most seen).Good t →
      EndsNumbers ((turn s most seen).spell t ++ rest)
  unfolding turn
  turn_next most seen (PositiveTurn t e kept) rest good = refl
  turn_next most seen (NegativeTurn t e) rest good = refl

  -- turns are read as they are spelled, and spelled as they are read
  pub turns_law : (most : ℕ) → IsExact (turns s most) EndsTurns
  unfolding turns
  turns_law most =
      repeat_law (turn_law most) is_turn_next (turn_moves most) (λ _ _ _. refl) (λ rest h. h)
      (turn_begins most) (turn_next most)
