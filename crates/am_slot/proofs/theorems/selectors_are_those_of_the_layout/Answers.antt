use Rattle.am_slot.proofs.Laws.{selectors_are_those_of_the_layout}
use Rattle.am_slot.proofs.theorems.selectors_are_those_of_the_layout.Goals as goal

pub returns : goal.returns
returns c = selectors_are_those_of_the_layout
