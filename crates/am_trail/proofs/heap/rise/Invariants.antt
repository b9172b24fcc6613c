use Rattle.std.proofs.Common.{◌+◌, ◌<◌, length, set}
use Rattle.am_trail.specs.inside.Heaps.{IsMoved, Rises}
use Rattle.am_trail.proofs.heap.rise.Given as goal

abbrev pub invariant-loop-k : goal.invariant-loop-k
invariant-loop-k l = record {
  inside : l.k < length l.heap;
  moved : IsMoved l.initial.heap l.initial.places (set l.heap l.k l.v) (set l.places l.v (l.k + 1));
  rises : Rises l.activities (set l.heap l.k l.v) l.k;
}

abbrev pub decreases-loop-k : goal.decreases-loop-k
decreases-loop-k l = l.k
