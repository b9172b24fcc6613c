use Rattle.std.proofs.Common.{ℕ, ◌+◌, ◌-◌, ◌<◌, length, set}
use Rattle.am_trail.specs.inside.Heaps.{IsMoved, Sinks}
use Rattle.am_trail.proofs.heap.sink.Given as goal

abbrev pub invariant-loop-child : goal.invariant-loop-child
invariant-loop-child l = record {
  inside : l.k < length l.heap;
  moved : IsMoved l.initial.heap l.initial.places (set l.heap l.k l.v) (set l.places l.v (l.k + 1));
  sinks : (low : ℕ) → Sinks low l.activities l.initial.heap l.from → Sinks low l.activities (set l.heap l.k l.v) l.k;
}

abbrev pub decreases-loop-child : goal.decreases-loop-child
decreases-loop-child l = length l.initial.heap - l.k
