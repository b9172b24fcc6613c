use Rattle.std.proofs.Common.{◌≡◌, ◌*◌, ◌^◌, ◌≤◌, take, sum_by, slice_index}
use Rattle.am_tree.proofs.sums.children_sum.Given as goal

abbrev pub invariant-loop-argument : goal.invariant-loop-argument
invariant-loop-argument l = record {
  value : l.sum ≡ sum_by (λ a. slice_index l.below a.symbol) (take l.argument-index l.argument-items);
  most : l.sum ≤ l.argument-index * 2 ^ 53;
}
