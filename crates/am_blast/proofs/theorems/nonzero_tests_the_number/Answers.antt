use Rattle.am_blast.proofs.Equality.{Means-nonzero}
use Rattle.am_blast.proofs.theorems.nonzero_tests_the_number.Goals as goal

pub returns : goal.returns
returns c = Means-nonzero
