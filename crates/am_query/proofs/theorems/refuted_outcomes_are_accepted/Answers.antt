use Rattle.am_query.proofs.Laws.{absent_is_accepted, best_is_accepted}
use Rattle.am_query.proofs.theorems.refuted_outcomes_are_accepted.Goals as goal

pub returns : goal.returns
returns c = record { best = best_is_accepted; absent = absent_is_accepted }
