use Rattle.am_query.proofs.Laws.{accepted_is_right, accepted_with_hints_is_right}
use Rattle.am_query.proofs.theorems.accepted_is_right.Goals as goal

pub returns : goal.returns
returns c = record { logs = accepted_is_right; hints = accepted_with_hints_is_right }
