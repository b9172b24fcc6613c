use Rattle.am_blast.proofs.Table.{circuit}
use Rattle.am_blast.proofs.theorems.operators_are_circuits.Goals as goal

pub returns : goal.returns
returns c = circuit
