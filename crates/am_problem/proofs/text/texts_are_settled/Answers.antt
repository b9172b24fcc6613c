use Rattle.am_problem.proofs.TextLaws.{all_texts_settled}
use Rattle.am_problem.proofs.text.texts_are_settled.Goals as goal

pub returns : goal.returns
returns c = all_texts_settled
