-- The calls that state unsoundness, one after another.
use Rattle.std.proofs.Common.{◌≡◌, ℕ, ◌+◌, ◌*◌, ◌^◌, List, ◌∙◌, ap, arith}
use Rattle.am_gate.specs.Build.{Follows, place_of}
use Rattle.am_gate.specs.Circuit.{HasInputs, HasRoom, Net, start}
use Rattle.am_gate.specs.Promises.{GivesStep}
use Rattle.am_gate.proofs.Laws.{Follows-bind, HasRoom-grown}
use Rattle.am_bv.specs.declared.term.Term.{Term}
use Rattle.am_problem.specs.Examples.{all_fields}
use Rattle.am_problem.specs.Limits.{IsProblem}
use Rattle.am_problem.specs.Problem.{Problem}
use Rattle.am_problem.proofs.Laws.{derivable_terms_fit}
use Rattle.am_query.specs.Formulas.{input_words, sound}
use Rattle.am_query.specs.Transformers.{IsTransformerOf}
use Rattle.am_query.specs.Witnesses.{words_from}
use Rattle.am_query.specs.inside.Parts.{failing, failing_weight}
use Rattle.am_query.specs.inside.Statements.{States}
use Rattle.am_query.specs.inside.Words.{AreWordsIn}
use Rattle.am_query.proofs.Light.{failing_small, few_field_bits, few_word_bits}
use Rattle.am_query.proofs.Literals.{put-by, puts-input_words}
use Rattle.am_query.proofs.Calls.{HasInputs-quiet}
use Rattle.am_query.proofs.Stating.{Builds-failing}
use Rattle.am_query.proofs.Tuples.{AreWordsIn-later}

module _ (p : Problem) (is : IsProblem p) (terms : List Term) (t : IsTransformerOf p terms)
    (old one two : Net) (fields words : List (List ℕ)) (fresh : old ≡ start old.folding)
    (first : GivesStep (input_words p.width (all_fields p)) (all_fields p * p.width) (AreWordsIn p.width (all_fields p))
    old
    fields one)
    (second : GivesStep (input_words p.width p.inputs) (p.inputs * p.width) (AreWordsIn p.width p.inputs) one
    words two) where
  begins : old.vars ≡ 1
  begins = ap (λ (n : Net). n.vars) fresh

  put_first : (fields ≡ words_from p.width (all_fields p) old.vars) × (one.vars ≡ old.vars + all_fields p * p.width)
  put_first = put-by first.follows (puts-input_words p.width (all_fields p) (place_of old))

  put_second : (words ≡ words_from p.width p.inputs one.vars) × (two.vars ≡ one.vars + p.inputs * p.width)
  put_second = put-by second.follows (puts-input_words p.width p.inputs (place_of one))

  -- the first inputs are the fields
  pub fields_stand : fields ≡ words_from p.width (all_fields p) 1
  fields_stand = put_first.0 ∙ ap (words_from p.width (all_fields p)) begins

  -- the inputs after them are the words
  pub words_stand : words ≡ words_from p.width p.inputs (1 + all_fields p * p.width)
  words_stand =
      put_second.0 ∙ ap (words_from p.width p.inputs) (put_first.1 ∙ ap (λ n. n + all_fields p * p.width) begins)

  pub many_variables : two.vars ≡ 1 + (all_fields p + p.inputs) * p.width
  many_variables = omega (arith, put_second.1, put_first.1, begins)

  -- the fields are words of the circuit
  pub fields_inside : AreWordsIn p.width (all_fields p) two.vars fields
  fields_inside = AreWordsIn-later p.width (all_fields p) one.vars two.vars fields second.grows.not_less first.given

  room_before : HasRoom (2 ^ 26 + 1) two
  room_before =
      let room : HasRoom (2 ^ 26 + 193) old = rw fresh (record { vars = omega arith; clauses = omega arith }) in
      let middle : HasRoom (2 ^ 26 + 97) one =
      HasRoom-grown (2 ^ 26 + 97) first.grows room (omega (arith, few_field_bits p is)) in
      HasRoom-grown (2 ^ 26 + 1) second.grows middle (omega (arith, few_word_bits p is))

  -- after the inputs there is room for what is stated of them
  pub room_for_failing : HasRoom (failing_weight p terms) two
  room_for_failing =
      let small = failing_small p is terms t in
      record { vars = omega (arith, room_before.vars, small); clauses = omega (arith, room_before.clauses, small) }

  module _ (new : Net) (third : States (failing p terms fields words) (failing_weight p terms) two tt new) where
    -- the three calls follow the statement of soundness
    pub unsound_stated : Follows (sound p terms) old tt new
    unfolding sound failing
    unsound_stated = Follows-bind _ first.follows (Follows-bind _ second.follows third.follows)

    -- what is stated of the inputs makes no further ones
    pub unsound_inputs : (inputs : List ℕ) → HasInputs inputs two → HasInputs inputs new
    unsound_inputs inputs h =
        HasInputs-quiet h third.follows
        (Builds-failing p is.formed terms (derivable_terms_fit p is.formed terms t) (place_of two) fields words
        (omega (arith, many_variables)) fields_inside second.given)

    -- there is room left after them
    pub room_left_after : HasRoom 1 new
    room_left_after = HasRoom-grown 1 third.grows room_before (omega (arith, failing_small p is terms t))
