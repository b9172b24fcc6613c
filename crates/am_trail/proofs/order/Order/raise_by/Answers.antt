use Rattle.std.proofs.Common.{◌≡◌, ◌<◌, ◌≤◌, arith, length, get_or, set, ◌∙◌}
use Rattle.std.proofs.lemmas.Grind.{get_or_default_zero}
use Rattle.std.proofs.lemmas.List.{length-set}
use Rattle.am_trail.proofs.Held.{indexed, moved_none, write_back}
use Rattle.am_trail.proofs.Heaping.{raised_absent, raised_there}
use Rattle.am_trail.proofs.order.Order.raise_by.Goals as goal

pub rise-requires-clause-rises : goal.rise-requires-clause-rises
rise-requires-clause-rises c =
    let f = c.self.inside in
    let h = c.self.invariant in
    let v = c.args.v in
    let lt : v < length f.activities.items = rw (← c.self.view_is) at c.requires in
    let old : c.index.result.now ≡ get_or f.activities.items v 0 = c.index.ensures
    ∙ get_or_default_zero f.activities.items v c.index.result.now lt in
    let more : get_or f.activities.items v 0 ≤ c.saturating_add.result =
    omega (arith, c.saturating_add.ensures, c.self.ranges.0) in
    let inside : v < length f.places.items = omega (arith, h.count) in
    rw (c.deref.ensures.value, c.deref_mut.ensures.value)
    (raised_there f.activities.items f.heap.items f.places.items v c.saturating_add.result h.placed h.ordered lt more
    inside c.index-2.result.now (c.index-2.ensures
    ∙ get_or_default_zero f.places.items v c.index-2.result.now inside) (omega arith))

pub invariant_of-self : goal.invariant_of-self
invariant_of-self c =
    let f = c.self.inside in
    let h = c.self.invariant in
    let moved = rw (c.deref_mut.ensures.value, c.deref_mut-then-place-gt0.ensures.value) at c.rise.ensures.moved in
    let ordered = rw c.deref.ensures.value at c.rise.ensures.ordered in
    rw (
      write_back f.heap.len c.rise.new.heap f.heap.items moved.count (omega (arith, f.heap.ok.0)),
      write_back f.places.len c.rise.new.places f.places.items moved.vars (omega (arith, f.places.ok.0)),
    )
    (indexed (set f.activities.items c.args.v c.saturating_add.result) f.heap.items f.places.items c.rise.new.heap
    c.rise.new.places f.heap.cap (length-set f.activities.items c.args.v c.saturating_add.result ∙ h.count) h.room
    h.small moved ordered)

pub invariant_of-self-else-place-gt0 : goal.invariant_of-self-else-place-gt0
invariant_of-self-else-place-gt0 c =
    let f = c.self.inside in
    let h = c.self.invariant in
    let v = c.args.v in
    let lt : v < length f.activities.items = rw (← c.self.view_is) at c.requires in
    let old : c.index.result.now ≡ get_or f.activities.items v 0 = c.index.ensures
    ∙ get_or_default_zero f.activities.items v c.index.result.now lt in
    let more : get_or f.activities.items v 0 ≤ c.saturating_add.result =
    omega (arith, c.saturating_add.ensures, c.self.ranges.0) in
    let inside : v < length f.places.items = omega (arith, h.count) in
    indexed (set f.activities.items v c.saturating_add.result) f.heap.items f.places.items f.heap.items f.places.items
    f.heap.cap (length-set f.activities.items v c.saturating_add.result ∙ h.count) h.room h.small
    (moved_none f.heap.items f.places.items h.placed)
    (raised_absent f.activities.items f.heap.items f.places.items v c.saturating_add.result h.placed h.ordered lt more
    inside c.index-2.result.now (c.index-2.ensures
    ∙ get_or_default_zero f.places.items v c.index-2.result.now inside) (omega arith))
