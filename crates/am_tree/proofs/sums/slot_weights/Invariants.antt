use Rattle.std.proofs.Common.{◌≡◌, ℕ, ◌<◌, ◌≤◌, ◌^◌, [], All, length, slice_index, slice_index_or}
use Rattle.am_tree.specs.Slots.{offered_by}
use Rattle.am_tree.specs.Weights.{slot_weight}
use Rattle.am_tree.proofs.sums.slot_weights.Given as goal

abbrev pub invariant-loop-productions : goal.invariant-loop-productions
invariant-loop-productions l = record {
  len : length l.weights.items ≡ l.productions-index;
  each : (n : ℕ) → n < l.productions-index
      → slice_index l.weights.items n ≡ slot_weight l.w (offered_by l.below (slice_index_or l.rules n []));
  most : All (λ x. x ≤ 2 ^ 21) l.weights.items;
}
