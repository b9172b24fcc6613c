use Rattle.std.proofs.Common.{◌≡◌, ◌++◌, map, take}
use Rattle.am_syntax.specs.Canonical.{lines}
use Rattle.am_tree.specs.Trees.{terms_of}
use Rattle.amurth.specs.Listed.{terms_row}
use Rattle.amurth.proofs.listing.print_tuples.Given as goal

abbrev pub invariant-loop-trees : goal.invariant-loop-trees
invariant-loop-trees l =
    l.out
    ≡ l.initial.out
    ++ lines (map (λ ts. terms_row (terms_of l.problem.rules l.problem.starts ts)) (take l.trees-index l.tuples))
