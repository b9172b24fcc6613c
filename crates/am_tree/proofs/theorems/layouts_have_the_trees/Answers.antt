use Rattle.am_tree.proofs.Laying.{layouts-have-the-trees}
use Rattle.am_tree.proofs.SpelledOnce.{choices-spell-one}
use Rattle.am_tree.proofs.theorems.layouts_have_the_trees.Goals as goal

pub returns : goal.returns
returns c = record { trees = layouts-have-the-trees; one = choices-spell-one }
