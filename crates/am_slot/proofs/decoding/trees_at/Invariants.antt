use Rattle.std.proofs.Common.{◌≡◌, [], ◌++◌, map, drop}
use Rattle.am_tree.specs.Trees.{tree}
use Rattle.am_tree.specs.Slots.{at_argument, positioned}
use Rattle.am_slot.proofs.decoding.trees_at.Given as goal

abbrev pub invariant-loop-position : goal.invariant-loop-position
invariant-loop-position l =
    l.parts
    ++ map (at_argument (tree l.missing []) l.children l.trees) (positioned l.position (drop l.position l.name-items))
    ≡ map (at_argument (tree l.missing []) l.children l.trees) (positioned 0 l.name-items)
