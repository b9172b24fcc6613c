use Rattle.std.proofs.Common.{ℕ, take, sum_by}
use Rattle.am_tree.specs.Counts.{production_count}
use Rattle.am_tree.specs.inside.Counted.{IsCount, AreCounts}
use Rattle.am_tree.proofs.counting.sum_of.Given as goal

abbrev pub invariant-loop-production : goal.invariant-loop-production
invariant-loop-production l = (f : ℕ → ℕ) → AreCounts f l.below
    → IsCount (sum_by (production_count f) (take l.production-index l.productions)) l.sum
