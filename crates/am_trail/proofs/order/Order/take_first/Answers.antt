use Rattle.std.proofs.Common.{◌≡◌, arith, length}
use Rattle.am_trail.proofs.Held.{write_back}
use Rattle.am_trail.proofs.Ranking.{taken_but, taken_first, taken_none}
use Rattle.am_trail.proofs.order.Order.take_first.Goals as goal

pub returns-clause-none : goal.returns-clause-none
returns-clause-none c =
    let f = c.self.inside in
    let new = c.take_head.new.places in
    let same : length new ≡ length f.places.items =
    omega (arith, c.take_head.ensures.heap.count, c.self.invariant.count) in
    rw (← c.self.view_is, write_back f.places.len new f.places.items same (omega (arith, f.places.ok.0)))
    (taken_none f.activities.items f.heap.items f.places.items new c.self.invariant.placed c.take_head.result
    c.take_head.ensures.none (rw c.deref_mut.ensures.value at c.take_head.ensures.same))

pub returns-clause-first : goal.returns-clause-first
returns-clause-first c =
    let f = c.self.inside in
    rw (← c.self.view_is) (taken_first f.activities.items f.heap.items f.places.items c.take_head.new.places
    c.self.invariant.placed c.take_head.result c.self.invariant.ordered c.take_head.ensures.some
    c.take_head.ensures.first)

pub returns-clause-taken : goal.returns-clause-taken
returns-clause-taken c =
    let f = c.self.inside in
    let new = c.take_head.new.places in
    let same : length new ≡ length f.places.items =
    omega (arith, c.take_head.ensures.heap.count, c.self.invariant.count) in
    rw (← c.self.view_is, write_back f.places.len new f.places.items same (omega (arith, f.places.ok.0)))
    (taken_but f.activities.items f.heap.items f.places.items new c.self.invariant.placed c.take_head.result
    c.take_head.ensures.some c.take_head.ensures.first (rw c.deref_mut.ensures.value at c.take_head.ensures.places))
