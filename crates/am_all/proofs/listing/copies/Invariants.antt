use Rattle.std.proofs.Common.{◌≡◌, map, take}
use Rattle.am_all.proofs.listing.copies.Given as goal

abbrev pub invariant-loop-tree : goal.invariant-loop-tree
invariant-loop-tree l = l.copies ≡ map (λ t. t.now) (take l.tree-index l.trees)
