use Rattle.std.proofs.Common.{◌≡◌, ◌≢◌, ◌+◌, ◌<◌, length, get_or, set, arith, sym, ◌∙◌}
use Rattle.std.proofs.lemmas.List.{length-set, get_or-set_same}
use Rattle.am_trail.specs.inside.Heaps.{IsFirstChild, Sinks}
use Rattle.am_trail.proofs.Heaping.{sink_step, sunk, sunk_end, swap_of_hole}
use Rattle.am_trail.proofs.Held.{hole_at, hole_child, hole_few, hole_moved, moved_trans}
use Rattle.am_trail.proofs.heap.sink.Goals as goal
use Rattle.am_trail.proofs.heap.sink.Goals.{in-Some+then-not-comes_before, in_default}

pub loop-child-preserved : goal.loop-child-preserved
loop-child-preserved c =
    let h = c.loop-child.invariant in
    let v = get_or c.args.heap.now c.args.from 0 in
    let heap = c.loop-child.heap in
    let k = c.loop-child.k in
    let j = c.in-Some.child in
    let child : IsFirstChild c.args.activities.now heap k j = c.in-Some.ensures.some in
    let ne : k ≢ j = omega (arith, child.child.0, child.child.1) in
    let lj : j < length heap = child.inside in
    let long = length-set heap k v in
    let at_k : get_or (set heap k v) k 0 ≡ v = get_or-set_same heap k v 0 h.inside in
    let at_j : get_or (set heap k v) j 0 ≡ get_or heap j 0 =
    hole_at heap c.loop-child.places k v h.moved.placed h.inside j ne in
    rw (c.put.ensures.heap, c.put.ensures.places) (record {
      inside = omega (arith, length-set heap k (get_or heap j 0));
      moved = moved_trans c.args.heap.now c.args.places.now (set heap k v) (set c.loop-child.places v (k + 1))
          (set (set heap k (get_or heap j 0)) j v) (set (set c.loop-child.places (get_or heap j 0) (k + 1)) v (j + 1))
          h.moved (hole_moved heap c.loop-child.places k v h.moved.placed h.inside j ne lj);
      sinks = λ low start. sink_step c.args.activities.now (set heap k v) (set (set heap k (get_or heap j 0)) j v) k j
          (swap_of_hole heap k j v h.inside lj ne) (omega arith) (omega arith) ne low
          (hole_child heap c.loop-child.places k v h.moved.placed h.inside c.args.activities.now j child)
          (h.sinks low start) (rw (at_k, at_j) (sym c.comes_before.ensures ∙ c.if-not-comes_before.false));
    })

pub put-requires-2-clause-small : goal.put-requires-2-clause-small
put-requires-2-clause-small c =
    let h = c.loop-child.invariant in
    let v = get_or c.args.heap.now c.args.from 0 in
    omega (
      arith,
      hole_few c.loop-child.heap c.loop-child.places c.loop-child.k v h.moved.placed h.inside,
      h.moved.vars,
      length-set c.loop-child.places v (c.loop-child.k + 1),
    )

pub returns-clause-ordered : goal.returns-clause-ordered
returns-clause-ordered c = λ low start.
    let h = c.loop-child.invariant in
    let v = get_or c.args.heap.now c.args.from 0 in
    let heap = c.loop-child.heap in
    let k = c.loop-child.k in
    let now : Sinks low c.args.activities.now (set heap k v) k = h.sinks low start in
    rw c.put-2.ensures.heap (elim c.match-first_child.branch [
      | in-Some+then-not-comes_before w ↦
          let j = w.in-Some.child in
          let child : IsFirstChild c.args.activities.now heap k j = w.in-Some.ensures.some in
          let ne : k ≢ j = omega (arith, child.child.0, child.child.1) in
          let at_k : get_or (set heap k v) k 0 ≡ v = get_or-set_same heap k v 0 h.inside in
          let at_j : get_or (set heap k v) j 0 ≡ get_or heap j 0 =
          hole_at heap c.loop-child.places k v h.moved.placed h.inside j ne in
          sunk low c.args.activities.now (set heap k v) k j now
          (hole_child heap c.loop-child.places k v h.moved.placed h.inside c.args.activities.now j child)
          (rw (at_k, at_j) (sym w.comes_before.ensures ∙ w.if-not-comes_before.true))
      | in_default w ↦ sunk_end low c.args.activities.now (set heap k v) k now
          (omega (arith, w.in_default.ensures.none, length-set heap k v))
    ])
