use Rattle.std.proofs.Common.{◌-◌, ◌↔◌, drop}
use Rattle.std.specs.List.{AllZip}
use Rattle.am_tree.specs.Trees.{Derives}
use Rattle.am_tree.proofs.grammar.Grammar.+derives.Given as goal

abbrev pub decreases-derives : goal.decreases-derives
decreases-derives l = goal.size-derives l

abbrev pub invariant-loop-i : goal.invariant-loop-i
invariant-loop-i l =
    AllZip (Derives l.self.rules (l.depth - 1)) (drop l.i l.names) (drop l.i l.children)
    ↔ AllZip (Derives l.self.rules (l.depth - 1)) l.names l.children
