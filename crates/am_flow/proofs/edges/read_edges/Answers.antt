use Rattle.std.proofs.Common.{refl}
use Rattle.am_syntax.proofs.Laws.{moves_on}
use Rattle.am_flow.specs.inside.Shapes.{seen_shape}
use Rattle.am_flow.proofs.EdgeLaws.{edge_law, edge_moves}
use Rattle.am_flow.proofs.edges.read_edges.Goals as goal

pub read_list-requires : goal.read_list-requires
read_list-requires c =
    let s = seen_shape c.args.shape.now in
    λ k. (
      (refl, tt),
      (
        c.requires,
        moves_on (edge_law s c.requires) (edge_moves s c.requires),
      ),
    )
