use Rattle.am_slot.proofs.Laws.{templates_make_selectors}
use Rattle.am_slot.proofs.theorems.templates_make_selectors.Goals as goal

pub returns : goal.returns
returns c = templates_make_selectors
