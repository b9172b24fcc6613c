use Rattle.std.proofs.Common.{refl}
use Rattle.am_syntax.proofs.Laws.{moves_on}
use Rattle.am_cert.specs.inside.Shapes.{seen_shape}
use Rattle.am_cert.proofs.TurnLaws.{turn_law, turn_moves}
use Rattle.am_cert.proofs.turns.read_turns.Goals as goal

pub read_list-requires : goal.read_list-requires
read_list-requires c =
    let s = seen_shape c.args.s.now in
    λ k. (
      (refl, tt),
      (
        c.requires,
        moves_on (turn_law s c.requires c.args.most) (turn_moves s c.requires c.args.most),
      ),
    )
