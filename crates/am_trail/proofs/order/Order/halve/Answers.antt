use Rattle.std.proofs.Common.{◌≡◌, arith, length, ap}
use Rattle.am_trail.proofs.Held.{indexed, write_back}
use Rattle.am_trail.proofs.order.Order.halve.Goals as goal

pub invariant_of-self : goal.invariant_of-self
invariant_of-self c =
    let f = c.self.inside in
    let h = c.self.invariant in
    let acts = c.halve_all.new.activities in
    let halved : length acts ≡ length f.activities.items =
    omega (arith, c.halve_all.auto.activities, ap length c.deref_mut.ensures.value) in
    let moved = rw (c.deref_mut-2.ensures.value, c.deref_mut-3.ensures.value) at c.order_all.ensures.moved in
    let back = write_back f.activities.len acts f.activities.items halved (omega (arith, f.activities.ok.0)) in
    let ordered = rw (c.deref.ensures.value, back) at c.order_all.ensures.ordered in
    rw (
      back,
      write_back f.heap.len c.order_all.new.heap f.heap.items moved.count (omega (arith, f.heap.ok.0)),
      write_back f.places.len c.order_all.new.places f.places.items moved.vars (omega (arith, f.places.ok.0)),
    )
    (indexed acts f.heap.items f.places.items c.order_all.new.heap c.order_all.new.places f.heap.cap
    (omega (arith, h.count)) h.room h.small moved ordered)
