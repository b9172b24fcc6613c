use Rattle.am_all.proofs.TreeLists.{trees_of-zero}
use Rattle.am_all.proofs.levels.lowest.Goals as goal

pub returns : goal.returns
returns c = λ n said. trees_of-zero c.args.rules.now n
