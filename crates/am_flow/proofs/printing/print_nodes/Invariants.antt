use Rattle.std.proofs.Common.{◌≡◌, ◌++◌, take}
use Rattle.am_flow.specs.Texts.{lines_from}
use Rattle.am_flow.proofs.printing.print_nodes.Given as goal

abbrev pub invariant-nodes : goal.invariant-nodes
invariant-nodes l = l.out ≡ l.initial.out ++ lines_from 0 (take l.node l.entries)
