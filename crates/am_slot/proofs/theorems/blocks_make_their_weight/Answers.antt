use Rattle.am_slot.proofs.Laws.{blocks_make_their_weight}
use Rattle.am_slot.proofs.theorems.blocks_make_their_weight.Goals as goal

pub returns : goal.returns
returns c = blocks_make_their_weight
