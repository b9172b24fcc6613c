use Rattle.std.proofs.Common.{ℕ, ◌≡◌, ◌≤◌, get_or, vec_capacity, vec_len}
use Rattle.std.specs.List.{range_with_len}
use Rattle.am_trail.specs.inside.Places.{IsPlaced}
use Rattle.am_trail.proofs.order.Order.new.Given as goal

abbrev pub invariant-loop-v : goal.invariant-loop-v
invariant-loop-v l = record {
  placed : IsPlaced l.heap.items l.places.items;
  heap : l.heap.items ≡ range_with_len 0 l.v;
  later : (u : ℕ) → l.v ≤ u → get_or l.places.items u 0 ≡ 0;
  vars : vec_len l.places ≡ l.vars;
  room : l.vars ≤ vec_capacity l.heap;
}
