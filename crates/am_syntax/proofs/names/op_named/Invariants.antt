use Rattle.std.proofs.Common.{◌≡◌, drop, bytes_eq, find}
use Rattle.am_syntax.specs.Names.{op_name, op_named}
use Rattle.am_syntax.proofs.names.op_named.Given as goal

abbrev pub invariant-loop-op : goal.invariant-loop-op
invariant-loop-op l = op_named l.word ≡ find (λ op. bytes_eq (op_name op) l.word) (drop l.op-index l.op-items)
