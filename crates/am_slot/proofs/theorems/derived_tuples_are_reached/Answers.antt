use Rattle.am_slot.proofs.Laws.{derived_tuples_are_reached}
use Rattle.am_slot.proofs.theorems.derived_tuples_are_reached.Goals as goal

pub returns : goal.returns
returns c = derived_tuples_are_reached
