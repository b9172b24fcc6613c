-- The calls that state after a fit that some transformer is closer, one after another.
use Rattle.std.proofs.Common.{ℕ, ◌+◌, ◌*◌, ◌^◌, ◌≤◌, List, ◌∙◌, ap, arith}
use Rattle.am_gate.specs.Build.{Follows, place_of}
use Rattle.am_gate.specs.Circuit.{HasInputs, HasRoom, Net}
use Rattle.am_gate.specs.Promises.{GivesStep}
use Rattle.am_gate.proofs.Laws.{Follows-bind, HasRoom-grown}
use Rattle.am_bv.specs.declared.term.Term.{Term}
use Rattle.am_blast.specs.Words.{IsWord}
use Rattle.am_blast.proofs.Laws.{IsWord-later}
use Rattle.am_slot.specs.Template.{selectors_of}
use Rattle.am_problem.specs.Examples.{all_fields}
use Rattle.am_problem.specs.Limits.{IsProblem}
use Rattle.am_problem.specs.Problem.{Problem}
use Rattle.am_problem.proofs.Laws.{derivable_terms_fit}
use Rattle.am_query.specs.Formulas.{encoding_of, input_word, input_words}
use Rattle.am_query.specs.Transformers.{IsTransformerOf}
use Rattle.am_query.specs.Witnesses.{word_from}
use Rattle.am_query.specs.inside.Chosen.{ArePreciseInputs}
use Rattle.am_query.specs.inside.Parts.{comparing, comparing_weight, sought}
use Rattle.am_query.specs.inside.Statements.{States}
use Rattle.am_query.specs.inside.Words.{AreWordsIn}
use Rattle.am_query.proofs.Calls.{HasInputs-quiet}
use Rattle.am_query.proofs.Light.{comparing_small, few_field_bits}
use Rattle.am_query.proofs.Literals.{put-by, puts-input_word, puts-input_words}
use Rattle.am_query.proofs.Stating.{Builds-comparing}
use Rattle.am_query.proofs.Tuples.{AreWordsIn-later}

module _ (p : Problem) (is : IsProblem p) (terms : List Term) (t : IsTransformerOf p terms)
    (old one two : Net) (fields : List (List ℕ)) (word : List ℕ) (room : HasRoom (2 ^ 27) old)
    (first : GivesStep (input_words p.width (all_fields p)) (all_fields p * p.width) (AreWordsIn p.width (all_fields p))
    old
    fields one)
    (second : GivesStep (input_word p.width) p.width (IsWord p.width) one word two) where
  room_before : HasRoom (2 ^ 26 + 1) two
  room_before =
      let middle : HasRoom (2 ^ 26 + 9) one =
      HasRoom-grown (2 ^ 26 + 9) first.grows room (omega (arith, few_field_bits p is)) in
      HasRoom-grown (2 ^ 26 + 1) second.grows middle (omega (arith, is.formed.width.1))

  -- after the inputs there is room for what is stated of them
  pub room_for_comparing : HasRoom (comparing_weight p terms) two
  room_for_comparing =
      let small = comparing_small p is terms t in
      record { vars = omega (arith, room_before.vars, small); clauses = omega (arith, room_before.clauses, small) }

  module _ (new : Net) (third : States (comparing p terms fields word) (comparing_weight p terms) two tt new) where
    -- the three calls follow the statement that some transformer is closer
    pub closer_stated : Follows (sought p terms) old tt new
    unfolding sought
    closer_stated = Follows-bind _ first.follows (Follows-bind _ second.follows third.follows)

    -- the words that were made are those of the inputs of precision
    pub inputs_stand : ArePreciseInputs p old.vars new.vars (record { fields = fields; word = word })
    inputs_stand =
        let put_first = put-by first.follows (puts-input_words p.width (all_fields p) (place_of old)) in
        let put_second = put-by second.follows (puts-input_word p.width (place_of one)) in
        record {
          fields = put_first.0;
          word = put_second.0 ∙ ap (word_from p.width) put_first.1;
          fields_inside =
              AreWordsIn-later p.width (all_fields p) one.vars new.vars fields
              (omega (arith, second.grows.not_less, third.grows.not_less)) first.given;
          word_inside = IsWord-later p.width two.vars new.vars word third.grows.not_less second.given;
        }

    -- what is stated of the inputs makes no further ones
    pub closer_inputs : 1 + selectors_of (encoding_of p) ≤ old.vars → (inputs : List ℕ) → HasInputs inputs two
        → HasInputs inputs new
    closer_inputs least inputs h =
        HasInputs-quiet h third.follows
        (Builds-comparing p is.formed terms (derivable_terms_fit p is.formed terms t) (place_of two) fields word
        (omega (arith, least, first.grows.not_less, second.grows.not_less))
        (AreWordsIn-later p.width (all_fields p) one.vars two.vars fields second.grows.not_less first.given)
        second.given)

    -- there is room left after them
    pub room_left_after : HasRoom 1 new
    room_left_after = HasRoom-grown 1 third.grows room_before (omega (arith, comparing_small p is terms t))
