use Rattle.am_problem.specs.StoredLines.{seen_scope}
use Rattle.std.proofs.Common.{refl}
use Rattle.am_syntax.proofs.Laws.{moves_on}
use Rattle.am_problem.proofs.ProblemLaws.{rule_law, rule_moves}
use Rattle.am_problem.proofs.rules.read_rules.Goals as goal

pub read_list-requires : goal.read_list-requires
read_list-requires c =
    λ k. (
      (refl, tt),
      (
        c.requires,
        moves_on (rule_law (seen_scope c.args.scope.now) c.requires)
            (rule_moves (seen_scope c.args.scope.now) c.requires),
      ),
    )
