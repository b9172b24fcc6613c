use Rattle.am_query.proofs.Laws.{verdicts_are_unique, verdicts_exist}
use Rattle.am_query.proofs.theorems.outcomes_have_one_verdict.Goals as goal

pub returns : goal.returns
returns c = record { unique = verdicts_are_unique; exists = verdicts_exist }
