use Rattle.std.proofs.Common.{◌<◌, ◌^◌, subst, sym}
use Rattle.am_problem.specs.Problem.{Problem}
use Rattle.am_tree.specs.Counts.{tuple_count}
use Rattle.amurth.proofs.MadeCounts.{made_few}
use Rattle.amurth.proofs.making.summary.Goals as goal

pub tuples_of-requires : goal.tuples_of-requires
tuples_of-requires c =
    subst (λ (p : Problem). tuple_count p.rules p.starts p.depth < 2 ^ 64) (sym c.requires.made)
    (made_few c.args.number)
