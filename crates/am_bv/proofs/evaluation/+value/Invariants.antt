use Rattle.std.proofs.Common.{◌≡◌, ℕ, ◌^◌, ◌<◌, map, length, take, slice_index}
use Rattle.am_bv.specs.Terms.{val}
use Rattle.am_bv.proofs.evaluation.+value.Given as goal

abbrev pub decreases-value : goal.decreases-value
decreases-value l = goal.size-value l

abbrev pub invariant-loop-t : goal.invariant-loop-t
invariant-loop-t l = record {
  so_far : l.words.items ≡ map (λ t. val l.w t l.env) (take l.t-index l.t-items);
  count : length l.words.items ≡ l.t-index;
  in_range : (k : ℕ) → slice_index l.words.items k < 2 ^ l.w;
}
