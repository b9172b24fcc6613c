use Rattle.std.proofs.Common.{◌≡◌, ◌++◌, map, take}
use Rattle.am_tree.specs.Trees.{tree}
use Rattle.am_all.proofs.listing.push_nodes.Given as goal

abbrev pub invariant-loop-row : goal.invariant-loop-row
invariant-loop-row l = l.trees ≡ l.initial.trees ++ map (tree l.number)
    (map (λ row. map (λ t. t.now) row) (take l.row-index l.row-items))
