use Rattle.am_bits.specs.lemmas.CongruenceLaws.{congruent-remainder}
use Rattle.am_bits.proofs.theorems.members_leave_residue.Goals as goal

pub returns : goal.returns
returns c = congruent-remainder
