use Rattle.std.proofs.Common.{◌≡◌, ℕ, [], length, sum_by, slice_index_or}
use Rattle.am_tree.specs.Counts.{production_count}
use Rattle.am_tree.specs.inside.Counted.{AreCounts}
use Rattle.am_tree.proofs.counting.counts_above.Given as goal

abbrev pub invariant-loop-productions : goal.invariant-loop-productions
invariant-loop-productions l = record {
  len : length l.counts.items ≡ l.productions-index;
  counts : (f : ℕ → ℕ) → AreCounts f l.below
      → AreCounts (λ n. sum_by (production_count f) (slice_index_or l.rules n [])) l.counts.items;
}
