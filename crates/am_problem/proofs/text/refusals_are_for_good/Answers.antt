use Rattle.am_problem.proofs.TextLaws.{problem_refused}
use Rattle.am_problem.proofs.text.refusals_are_for_good.Goals as goal

pub returns : goal.returns
returns c = problem_refused
