use Rattle.std.proofs.Common.{ℕ, take}
use Rattle.am_tree.specs.Counts.{product_by}
use Rattle.am_tree.specs.inside.Counted.{IsCount, AreCounts}
use Rattle.am_tree.proofs.counting.product_of.Given as goal

abbrev pub invariant-loop-n : goal.invariant-loop-n
invariant-loop-n l = (f : ℕ → ℕ) → AreCounts f l.counts → IsCount (product_by f (take l.n-index l.names)) l.product
