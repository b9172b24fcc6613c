use Rattle.am_problem.proofs.TextLaws.{one_problem}
use Rattle.am_problem.proofs.text.texts_have_one_problem.Goals as goal

pub returns : goal.returns
returns c = one_problem
