use Rattle.std.proofs.Common.{◌≡◌, ◌+◌, ◌++◌, ◌∷◌, [], ap, arith, length, refl, replicate, rules, sym, vec_len, ◌∙◌}
use Rattle.std.specs.List.{range_with_len}
use Rattle.std.proofs.lemmas.List.{get_or-set_other, length-replicate}
use Rattle.am_trail.proofs.Held.{write_back}
use Rattle.am_trail.proofs.Ranking.{held_all, new_heap, range_push}
use Rattle.am_trail.proofs.order.Order.new.Goals as goal

pub loop-v-preserved : goal.loop-v-preserved
loop-v-preserved c =
    let h = c.loop-v.invariant in
    let v = c.loop-v.v in
    let places = c.loop-v.places in
    let new = rw c.deref_mut.ensures.value at c.push.ensures.places in
    let same : length c.push.new.places ≡ length places.items =
    omega (arith, c.push.auto.places, ap length c.deref_mut.ensures.value) in
    let back = write_back places.len c.push.new.places places.items same (omega (arith, places.ok.0)) in
    rw back (record {
      placed = c.push.ensures.placed;
      heap = c.push.ensures.heap ∙ ap (λ r. r ++ v ∷ []) h.heap ∙ range_push v;
      later = λ u le. rw new (get_or-set_other places.items v u (vec_len c.loop-v.heap + 1) 0 (omega arith)
          ∙ h.later u (omega arith));
      vars = h.vars;
      room = omega (arith, h.room, c.push.ensures.room);
    })

pub invariant_of-result : goal.invariant_of-result
invariant_of-result c =
    let h = c.loop-v.invariant in
    let places = c.loop-v.places.items in
    let vars : length places ≡ c.args.vars = omega (arith, h.vars, c.loop-v.places.ok.0) in
    let zeros : c.in_ok-activities.activities.items ≡ replicate c.args.vars 0 = search rules in
    let all : c.loop-v.heap.items ≡ range_with_len 0 (length places) =
    h.heap ∙ ap (range_with_len 0) (omega (arith, vars, c.loop-v-test.false, c.loop-v.auto.v-end)) in
    record {
      placed = h.placed;
      ordered = new_heap c.loop-v.heap.items places h.placed all c.in_ok-activities.activities.items (rw vars zeros);
      count = rw zeros (length-replicate c.args.vars 0 ∙ sym vars);
      room = omega (arith, h.room, vars);
      small = omega (arith, vars);
    }

pub returns : goal.returns
returns c =
    let h = c.loop-v.invariant in
    let places = c.loop-v.places.items in
    let vars : length places ≡ c.args.vars = omega (arith, h.vars, c.loop-v.places.ok.0) in
    let zeros : c.in_ok-activities.activities.items ≡ replicate c.args.vars 0 = search rules in
    let all : c.loop-v.heap.items ≡ range_with_len 0 (length places) =
    h.heap ∙ ap (range_with_len 0) (omega (arith, vars, c.loop-v-test.false, c.loop-v.auto.v-end)) in
    rw (zeros, held_all c.loop-v.heap.items places h.placed all, vars) refl
