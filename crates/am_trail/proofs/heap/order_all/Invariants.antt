use Rattle.std.proofs.Common.{◌≤◌, length}
use Rattle.am_trail.specs.inside.Heaps.{IsHeapFrom, IsMoved}
use Rattle.am_trail.proofs.heap.order_all.Given as goal

abbrev pub invariant-loop-k : goal.invariant-loop-k
invariant-loop-k l = record {
  inside : l.k ≤ length l.heap;
  moved : IsMoved l.initial.heap l.initial.places l.heap l.places;
  ordered : IsHeapFrom l.k l.activities l.heap;
}

abbrev pub decreases-loop-k : goal.decreases-loop-k
decreases-loop-k l = l.k
