use Rattle.std.proofs.Common.{◌≡◌, ◌≢◌, ◌+◌, ◌-◌, ◌/◌, ◌<◌, length, get_or, set, arith, refl, sym, ◌∙◌}
use Rattle.std.proofs.lemmas.List.{length-set, get_or-set_same}
use Rattle.am_trail.proofs.Heaping.{rise_step, risen, risen_top, swap_of_hole}
use Rattle.am_trail.proofs.Held.{hole_at, hole_few, hole_moved, hole_var, moved_trans}
use Rattle.am_trail.proofs.heap.rise.Goals as goal
use Rattle.am_trail.proofs.heap.rise.Goals.{else-loop-k-test, then-loop-k-test+then-not-comes_before}

pub comes_before-requires-clause-w : goal.comes_before-requires-clause-w
comes_before-requires-clause-w c =
    let h = c.loop-k.invariant in
    let v = get_or c.args.heap.now c.args.from 0 in
    let low = hole_var c.loop-k.heap c.loop-k.places c.loop-k.k v h.moved.placed h.inside ((c.loop-k.k - 1) / 2)
    (omega arith) (omega arith) in
    omega (arith, h.moved.vars, length-set c.loop-k.places v (c.loop-k.k + 1))

pub put-requires-clause-v : goal.put-requires-clause-v
put-requires-clause-v c =
    let h = c.loop-k.invariant in
    let v = get_or c.args.heap.now c.args.from 0 in
    hole_var c.loop-k.heap c.loop-k.places c.loop-k.k v h.moved.placed h.inside ((c.loop-k.k - 1) / 2) (omega arith)
    (omega arith)

pub put-requires-clause-small : goal.put-requires-clause-small
put-requires-clause-small c =
    let h = c.loop-k.invariant in
    let v = get_or c.args.heap.now c.args.from 0 in
    omega (
      arith,
      hole_few c.loop-k.heap c.loop-k.places c.loop-k.k v h.moved.placed h.inside,
      h.moved.vars,
      length-set c.loop-k.places v (c.loop-k.k + 1),
    )

pub loop-k-preserved : goal.loop-k-preserved
loop-k-preserved c =
    let h = c.loop-k.invariant in
    let v = get_or c.args.heap.now c.args.from 0 in
    let heap = c.loop-k.heap in
    let k = c.loop-k.k in
    let j = (k - 1) / 2 in
    let ne : k ≢ j = omega arith in
    let lj : j < length heap = omega arith in
    let long = length-set heap k v in
    let at_k : get_or (set heap k v) k 0 ≡ v = get_or-set_same heap k v 0 h.inside in
    let at_j : get_or (set heap k v) j 0 ≡ get_or heap j 0 =
    hole_at heap c.loop-k.places k v h.moved.placed h.inside j ne in
    rw (c.put.ensures.heap, c.put.ensures.places) (record {
      inside = omega (arith, length-set heap k (get_or heap j 0));
      moved = moved_trans c.args.heap.now c.args.places.now (set heap k v) (set c.loop-k.places v (k + 1))
          (set (set heap k (get_or heap j 0)) j v) (set (set c.loop-k.places (get_or heap j 0) (k + 1)) v (j + 1))
          h.moved (hole_moved heap c.loop-k.places k v h.moved.placed h.inside j ne lj);
      rises = rise_step c.args.activities.now (set heap k v) (set (set heap k (get_or heap j 0)) j v) k j
          (swap_of_hole heap k j v h.inside lj ne) (omega arith) (omega arith) ne refl (omega arith) h.rises
          (rw (at_k, at_j) (sym c.comes_before.ensures ∙ c.if-not-comes_before.false));
    })

pub put-requires-2-clause-small : goal.put-requires-2-clause-small
put-requires-2-clause-small c =
    let h = c.loop-k.invariant in
    let v = get_or c.args.heap.now c.args.from 0 in
    omega (
      arith,
      hole_few c.loop-k.heap c.loop-k.places c.loop-k.k v h.moved.placed h.inside,
      h.moved.vars,
      length-set c.loop-k.places v (c.loop-k.k + 1),
    )

pub returns-clause-ordered : goal.returns-clause-ordered
returns-clause-ordered c =
    let h = c.loop-k.invariant in
    let v = get_or c.args.heap.now c.args.from 0 in
    rw c.put-2.ensures.heap (elim c.loop-k-test.branch [
      | else-loop-k-test w ↦ risen_top c.args.activities.now (set c.loop-k.heap c.loop-k.k v) c.loop-k.k h.rises
          (omega arith)
      | then-loop-k-test+then-not-comes_before w ↦ risen c.args.activities.now (set c.loop-k.heap c.loop-k.k v)
          c.loop-k.k h.rises
          (let heap = c.loop-k.heap in
          let k = c.loop-k.k in
          let j = (k - 1) / 2 in
          let ne : k ≢ j = omega arith in
          let at_k : get_or (set heap k v) k 0 ≡ v = get_or-set_same heap k v 0 h.inside in
          let at_j : get_or (set heap k v) j 0 ≡ get_or heap j 0 =
          hole_at heap c.loop-k.places k v h.moved.placed h.inside j ne in
          rw (at_k, at_j) (sym w.comes_before.ensures ∙ w.if-not-comes_before.true))
    ])
