use Rattle.std.proofs.Common.{◌-◌}
use Rattle.am_tree.proofs.Weighing.{block-weighs}
use Rattle.am_tree.proofs.theorems.block_weighs_its_slots.Goals as goal

pub returns : goal.returns
returns c = λ rules starts depth w. block-weighs rules w (depth - 1) 1 0 starts
