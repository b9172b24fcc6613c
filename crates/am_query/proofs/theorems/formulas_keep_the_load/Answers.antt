use Rattle.am_query.proofs.Laws.{formulas_keep_the_load}
use Rattle.am_query.proofs.theorems.formulas_keep_the_load.Goals as goal

pub returns : goal.returns
returns c = formulas_keep_the_load
