use Rattle.std.proofs.Common.{◌≡◌, ◌+◌, ◌*◌, map, take, length}
use Rattle.am_tree.specs.Listed.{trees_of}
use Rattle.am_all.proofs.TreeLists.{trees_from}
use Rattle.am_all.proofs.listing.+listing.Given as goal

abbrev pub decreases-trees_of : goal.decreases-trees_of
decreases-trees_of l = 2 * length l.levels.now

abbrev pub decreases-push_trees : goal.decreases-push_trees
decreases-push_trees l = 2 * length l.below.now + 1

abbrev pub invariant-push_trees-loop-name : goal.invariant-push_trees-loop-name
invariant-push_trees-loop-name l =
    l.lists ≡ map (trees_of l.grammar.rules (length l.below)) (take l.name-index l.name-items)

abbrev pub invariant-trees_of-loop-i : goal.invariant-trees_of-loop-i
invariant-trees_of-loop-i l = l.trees ≡ trees_from (trees_of l.grammar.rules (length l.below)) 0
    (take l.i l.productions)
