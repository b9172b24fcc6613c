use Rattle.std.proofs.Common.{◌≡◌, ◌+◌, ◌<◌, arith, length, get_or, ◌∙◌}
use Rattle.std.specs.Prelude.{vec_len}
use Rattle.std.proofs.lemmas.Grind.{get_or_default_zero}
use Rattle.am_trail.proofs.Held.{write_back}
use Rattle.am_trail.proofs.Ranking.{holds_already, holds_also}
use Rattle.am_trail.proofs.order.Order.hold.Goals as goal

pub returns-then-index-eq0 : goal.returns-then-index-eq0
returns-then-index-eq0 c =
    let f = c.self.inside in
    let lt : c.args.v < length f.activities.items = rw (← c.self.view_is) at c.requires in
    let inside : c.args.v < length f.places.items = omega (arith, c.self.invariant.count) in
    let same : length c.insert.new.places ≡ length f.places.items =
    omega (arith, c.insert.ensures.heap.count, c.self.invariant.count) in
    let held = rw c.deref_mut.ensures.value at c.insert.ensures.places in
    rw (
      ← c.self.view_is,
      write_back f.places.len c.insert.new.places f.places.items same
          (omega (arith, f.places.ok.0)),
      held,
    )
    (holds_also f.activities.items f.places.items c.args.v (vec_len f.heap + 1) inside (omega arith))

pub returns-else-index-eq0 : goal.returns-else-index-eq0
returns-else-index-eq0 c =
    let f = c.self.inside in
    let lt : c.args.v < length f.activities.items = rw (← c.self.view_is) at c.requires in
    let inside : c.args.v < length f.places.items = omega (arith, c.self.invariant.count) in
    let at : c.index.result.now ≡ get_or f.places.items c.args.v 0 = c.index.ensures
    ∙ get_or_default_zero f.places.items c.args.v c.index.result.now inside in
    rw (← c.self.view_is) (holds_already f.activities.items f.places.items c.args.v inside
    (omega (arith, c.if-index-eq0.false)))
