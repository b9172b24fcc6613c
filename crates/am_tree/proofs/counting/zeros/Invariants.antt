use Rattle.std.proofs.Common.{◌≡◌, length}
use Rattle.am_tree.specs.inside.Counted.{AreCounts}
use Rattle.am_tree.proofs.counting.zeros.Given as goal

abbrev pub invariant-loop : goal.invariant-loop
invariant-loop l = record {
  len : length l.counts.items ≡ l.counter;
  zeros : AreCounts (λ _. 0) l.counts.items;
}
