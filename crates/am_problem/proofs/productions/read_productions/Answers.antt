use Rattle.am_problem.specs.StoredLines.{seen_scope}
use Rattle.std.proofs.Common.{refl}
use Rattle.am_syntax.proofs.Laws.{moves_on}
use Rattle.am_problem.proofs.ProblemLaws.{each_law, each_moves}
use Rattle.am_problem.proofs.productions.read_productions.Goals as goal

pub read_list-requires : goal.read_list-requires
read_list-requires c =
    λ k. (
      (refl, tt),
      (
        tt,
        moves_on (each_law (seen_scope c.args.scope.now) c.requires c.args.room)
            (each_moves (seen_scope c.args.scope.now) c.requires c.args.room),
      ),
    )
