use Rattle.std.proofs.Common.{refl}
use Rattle.am_syntax.proofs.Laws.{moves_on}
use Rattle.am_flow.specs.inside.Shapes.{seen_shape}
use Rattle.am_flow.proofs.EdgeLaws.{variable_law, variable_moves}
use Rattle.am_flow.proofs.actions.read_more.Goals as goal

pub read_list-requires : goal.read_list-requires
read_list-requires c =
    let s = seen_shape c.args.shape.now in
    λ k. (
      (refl, tt),
      (
        tt,
        moves_on (λ seen. variable_law s c.requires) (variable_moves s c.requires),
      ),
    )
