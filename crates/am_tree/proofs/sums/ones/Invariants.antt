use Rattle.std.proofs.Common.{◌≡◌, All, length}
use Rattle.am_tree.proofs.sums.ones.Given as goal

abbrev pub invariant-loop : goal.invariant-loop
invariant-loop l = record {
  len : length l.ones.items ≡ l.counter;
  each : All (λ x. x ≡ 1) l.ones.items;
}
