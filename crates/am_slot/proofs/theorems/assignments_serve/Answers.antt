use Rattle.am_slot.proofs.Laws.{assignments_serve}
use Rattle.am_slot.proofs.theorems.assignments_serve.Goals as goal

pub returns : goal.returns
returns c = assignments_serve
