use Rattle.std.proofs.Common.{◌≡◌, ap, length, arith, refl, ◌∙◌}
use Rattle.std.proofs.lemmas.List.{length-set}
use Rattle.am_trail.proofs.Held.{write_back}
use Rattle.am_trail.proofs.Heaping.{rises_last}
use Rattle.am_trail.proofs.heap.insert.Goals as goal

pub rise-requires-clause-rises : goal.rise-requires-clause-rises
rise-requires-clause-rises c =
    let last : c.len-last.result ≡ length c.args.heap.now.items = omega (arith, c.args.heap.now.ok.0) in
    rw (c.deref_mut.ensures.value, c.push.ensures.heap, last)
    (rises_last c.args.activities.now c.args.heap.now.items c.args.v c.requires.heap.ordered)

pub returns-clause-heap : goal.returns-clause-heap
returns-clause-heap c =
    let same : length c.rise.new.heap ≡ length c.push.new.heap.items =
    omega (arith, c.rise.ensures.moved.count, ap length c.deref_mut.ensures.value) in
    let vars : length c.rise.new.places ≡ length c.args.places.now =
    omega (
      arith,
      c.rise.ensures.moved.vars,
      ap length c.push.ensures.places,
      length-set c.args.places.now c.args.v c.len-last.result,
    ) in
    rw (write_back c.push.new.heap.len c.rise.new.heap c.push.new.heap.items same (omega (arith, c.push.new.heap.ok.0)))
    (record {
      placed = c.rise.ensures.moved.placed;
      ordered = c.rise.ensures.ordered;
      count = omega (arith, c.requires.heap.count, vars);
      room = omega (arith, c.requires.heap.room, vars, c.push.ensures.room);
      small = omega (arith, c.requires.heap.small, vars);
    })

pub returns-clause-places : goal.returns-clause-places
returns-clause-places c = c.rise.ensures.moved.held ∙ rw c.push.ensures.places refl
