use Rattle.am_query.proofs.Laws.{turns_are_few}
use Rattle.am_query.proofs.theorems.turns_are_few.Goals as goal

pub returns : goal.returns
returns c = turns_are_few
