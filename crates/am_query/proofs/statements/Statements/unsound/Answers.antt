use Rattle.std.proofs.Common.{◌≡◌, arith}
use Rattle.am_problem.specs.Examples.{all_fields}
use Rattle.am_problem.specs.Limits.{IsProblem}
use Rattle.am_query.proofs.Unsound.{fields_inside, fields_stand, room_left_after, room_for_failing, unsound_inputs}
use Rattle.am_query.proofs.Unsound.{unsound_stated, words_stand}
use Rattle.am_query.proofs.Tuples.{AreWordsIn-later}
use Rattle.am_query.proofs.statements.Statements.unsound.Goals as goal

pub failing-requires-clause-room : goal.failing-requires-clause-room
failing-requires-clause-room c =
    let p = c.args.self.now in
    let is : IsProblem p = rw c.self.view_is at c.keeps_limits.ensures in
    let fields : c.all_fields.result ≡ all_fields p = rw c.self.view_is at c.all_fields.ensures.value in
    let inputs : c.inputs.result ≡ p.inputs = rw c.self.view_is at c.inputs.ensures in
    let first = rw (c.width-w.ensures, fields) at c.in_ok-fields.ensures.ok in
    let second = rw (c.width-w.ensures, inputs) at c.in_ok-words.ensures.ok in
    room_for_failing p is c.args.t.now c.requires.transformer _ _ _ c.in_ok-fields.fields c.in_ok-words.words
    c.requires.fresh first second

pub returns : goal.returns
returns c =
    let p = c.args.self.now in
    let t = c.args.t.now in
    let of = c.requires.transformer in
    let fresh = c.requires.fresh in
    let is : IsProblem p = rw c.self.view_is at c.keeps_limits.ensures in
    let fields : c.all_fields.result ≡ all_fields p = rw c.self.view_is at c.all_fields.ensures.value in
    let inputs : c.inputs.result ≡ p.inputs = rw c.self.view_is at c.inputs.ensures in
    let first = rw (c.width-w.ensures, fields) at c.in_ok-fields.ensures.ok in
    let second = rw (c.width-w.ensures, inputs) at c.in_ok-words.ensures.ok in
    let third = rw (c.as_slice.ensures, c.as_slice-2.ensures) at c.in_ok-failing.ensures in
    let f = c.in_ok-fields.fields in
    let w = c.in_ok-words.words in
    let one = rw (c.width-w.ensures, fields) at c.in_ok-fields.ensures.count in
    let two = rw (c.width-w.ensures, inputs) at c.in_ok-words.ensures.count in
    record {
      stated = unsound_stated p is t of _ _ _ f w fresh first second _ third;
      words = record {
        fields = fields_stand p is t of _ _ _ f w fresh first second;
        words = words_stand p is t of _ _ _ f w fresh first second;
        fields_inside =
            AreWordsIn-later p.width (all_fields p) _ _ f third.grows.not_less
            (fields_inside p is t of _ _ _ f w fresh first second);
        words_inside = AreWordsIn-later p.width p.inputs _ _ w third.grows.not_less second.given;
      };
      inputs = unsound_inputs p is t of _ _ _ f w fresh first second _ third _ c.in_ok-words.ensures.inputs;
      count = omega (arith, one, two);
      room = room_left_after p is t of _ _ _ f w fresh first second _ third;
    }
