use Rattle.std.proofs.Common.{get_or, rules}
use Rattle.am_all.proofs.TreeLists.{choices-told}
use Rattle.am_all.proofs.levels.have_trees.Goals as goal

pub returns-in-Some-false : goal.returns-in-Some-false
returns-in-Some-false c = λ said f told.
    choices-told f c.args.names.now c.loop-name.name-index c.loop-name-test.true
    (told (get_or c.args.names.now c.loop-name.name-index 0) (search rules))
