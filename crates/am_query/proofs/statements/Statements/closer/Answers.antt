use Rattle.std.proofs.Common.{◌≡◌, subst, arith}
use Rattle.am_problem.specs.Examples.{all_fields}
use Rattle.am_problem.specs.Limits.{IsProblem}
use Rattle.am_query.proofs.CloserTransformers.{closer_inputs, closer_stated, inputs_stand, room_left_after}
use Rattle.am_query.proofs.CloserTransformers.{room_for_comparing}
use Rattle.am_query.proofs.statements.Statements.closer.Goals as goal

pub comparing-requires-clause-room : goal.comparing-requires-clause-room
comparing-requires-clause-room c =
    let p = c.args.self.now in
    let is = subst IsProblem c.self.view_is c.keeps_limits.ensures in
    let fields : c.all_fields.result ≡ all_fields p = rw c.self.view_is at c.all_fields.ensures.value in
    let first = rw (c.width-w.ensures, fields) at c.in_ok-fields.ensures.ok in
    let second = rw c.width-w.ensures at c.in_ok-word.ensures.ok in
    room_for_comparing p is c.args.t.now c.requires.transformer _ _ _ c.in_ok-fields.fields c.in_ok-word.word
    c.requires.room first second

pub returns : goal.returns
returns c =
    let p = c.args.self.now in
    let t = c.args.t.now in
    let of = c.requires.transformer in
    let room = c.requires.room in
    let is = subst IsProblem c.self.view_is c.keeps_limits.ensures in
    let fields : c.all_fields.result ≡ all_fields p = rw c.self.view_is at c.all_fields.ensures.value in
    let first = rw (c.width-w.ensures, fields) at c.in_ok-fields.ensures.ok in
    let second = rw c.width-w.ensures at c.in_ok-word.ensures.ok in
    let third = rw (c.as_slice.ensures, c.as_slice-2.ensures) at c.in_ok-comparing.ensures in
    let f = c.in_ok-fields.fields in
    let w = c.in_ok-word.word in
    let one = rw (c.width-w.ensures, fields) at c.in_ok-fields.ensures.count in
    let two = rw c.width-w.ensures at c.in_ok-word.ensures.count in
    record {
      stated = closer_stated p is t of _ _ _ f w room first second _ third;
      words = inputs_stand p is t of _ _ _ f w room first second _ third;
      inputs =
          closer_inputs p is t of _ _ _ f w room first second _ third c.requires.selectors _
          c.in_ok-word.ensures.inputs;
      count = omega (arith, one, two);
      vars = omega (arith, first.grows.not_less, second.grows.not_less, third.grows.not_less);
      room = room_left_after p is t of _ _ _ f w room first second _ third;
    }
