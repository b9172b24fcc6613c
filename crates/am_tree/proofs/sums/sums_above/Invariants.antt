use Rattle.std.proofs.Common.{◌≡◌, ℕ, ◌+◌, ◌<◌, [], length, sum_by, slice_index, slice_index_or}
use Rattle.am_tree.specs.Slots.{shared_by}
use Rattle.am_tree.proofs.sums.sums_above.Given as goal

abbrev pub invariant-loop-n : goal.invariant-loop-n
invariant-loop-n l = record {
  len : length l.sums.items ≡ l.n;
  each : (m : ℕ) → m < l.n →
      slice_index l.sums.items m
      ≡ slice_index l.inner m + sum_by (λ a. slice_index l.below a.symbol) (shared_by 1 (slice_index_or l.rules m []));
}
