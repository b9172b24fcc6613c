use Rattle.am_query.proofs.Laws.{hints_are_tested_in_turn, logs_are_tested_in_turn}
use Rattle.am_query.proofs.theorems.refutations_are_tested_in_turn.Goals as goal

pub returns : goal.returns
returns c = record { logs = logs_are_tested_in_turn; hints = hints_are_tested_in_turn }
