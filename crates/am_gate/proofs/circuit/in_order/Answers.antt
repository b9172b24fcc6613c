use Rattle.am_gate.proofs.Rows.{added_swapped}
use Rattle.am_gate.proofs.circuit.in_order.Goals as goal

pub returns-else-code : goal.returns-else-code
returns-else-code c = added_swapped c.args.x c.args.y c.args.gate
