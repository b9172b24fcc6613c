use Rattle.std.proofs.Common.{Err, ap, length, nat_lt, subst, ◌∙◌}
use Rattle.std.proofs.lemmas.Result.{err_from_is_err_and}
use Rattle.am_syntax.specs.Pieces.{seen_as}
use Rattle.am_syntax.specs.Readers.{Makes}
use Rattle.am_cert.specs.Grammar.{negative_count, turn, turn_of, turn_parts}
use Rattle.am_cert.specs.inside.Shapes.{seen_shape}
use Rattle.am_cert.specs.inside.Shown.{either_turn, read_as}
use Rattle.am_cert.proofs.Steps.{makes_no_room, makes_room}
use Rattle.am_cert.proofs.turns.read_turn.Goals as goal

pub returns-in_err-expect_room : goal.returns-in_err-expect_room
unfolding turn
returns-in_err-expect_room c =
    let p = err_from_is_err_and c.from_residual.result c.from_residual.ensures.1 in
    let seen = c.args.seen.now in
    makes_no_room (λ t. t) (nat_lt (length seen) c.args.most)
    (seen_as turn_of turn_parts (either_turn (seen_shape c.args.s.now) (negative_count seen))) c.args.text.now
    c.expect_room.new.text c.from_residual.result c.in_err-expect_room.field-0.0 (p.1 ∙ ap Err p.2)
    c.in_err-expect_room.ensures

pub returns : goal.returns
unfolding turn
returns c =
    let s = seen_shape c.args.s.now in
    let seen = c.args.seen.now in
    makes_room (λ t. t) (nat_lt (length seen) c.args.most)
    (seen_as turn_of turn_parts (either_turn s (negative_count seen))) c.args.text.now c.expect_room.new.text
    c.read_either.new.text c.read_either.result c.in_ok-expect_room.ensures
    (subst (λ n. Makes (λ t. t) c.read_either.result c.expect_room.new.text c.read_either.new.text
    (read_as turn_of (either_turn s n))) c.negative_count.ensures c.read_either.ensures)
