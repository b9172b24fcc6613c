use Rattle.am_bv.proofs.Operators.{ALL-contains}
use Rattle.am_bv.proofs.theorems.operators_are_listed.Goals as goal

pub returns : goal.returns
returns c = ALL-contains
