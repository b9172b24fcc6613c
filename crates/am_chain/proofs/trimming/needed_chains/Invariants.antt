use Rattle.std.proofs.Common.{◌≡◌, ◌≤◌, length}
use Rattle.am_chain.specs.inside.Marks.{mark_at}
use Rattle.am_chain.specs.inside.Numbers.{AreNeededFrom}
use Rattle.am_chain.proofs.trimming.needed_chains.Given as goal

abbrev pub invariant-loop-k : goal.invariant-loop-k
invariant-loop-k l = record {
  in_range : l.k ≤ length l.log;
  len : length l.needed.items ≡ length l.log;
  needed : AreNeededFrom l.k l.given l.log (mark_at l.needed.items);
}

abbrev pub decreases-loop-k : goal.decreases-loop-k
decreases-loop-k l = l.k
