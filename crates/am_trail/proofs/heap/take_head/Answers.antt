use Rattle.std.proofs.Common.{◌≡◌, ◌≢◌, ◌<◌, [], ◌∷◌, ◌++◌, ap, length, get_or, set, vec_len, arith, sym, ◌∙◌}
use Rattle.std.proofs.lemmas.Bool.{eqb-false}
use Rattle.std.proofs.lemmas.Grind.{get_or_default_zero}
use Rattle.std.proofs.lemmas.List.{length-set}
use Rattle.am_trail.proofs.Held.{refilled, refilled_held, refilled_sinks, write_back}
use Rattle.am_trail.proofs.heap.take_head.Goals as goal

pub refill-requires-clause-placed : goal.refill-requires-clause-placed
refill-requires-clause-placed c =
    let rest = c.pop.new.self.items in
    let popped : c.args.heap.now.items ≡ rest ++ c.in_ok-last.last ∷ [] = c.in_ok-last.ensures.items in
    let there : vec_len c.pop.new.self ≢ 0 = eqb-false (vec_len c.pop.new.self) 0 (sym c.if-is_empty.ensures) in
    let some : 0 < length rest = omega (arith, c.pop.new.self.ok.0) in
    let first : c.index-first.result.now ≡ get_or rest 0 0 = c.index-first.ensures
    ∙ get_or_default_zero rest 0 c.index-first.result.now some in
    rw (c.deref_mut.ensures.value, first)
    (refilled rest c.args.places.now c.in_ok-last.last (rw popped at c.requires.heap.placed) some)

pub refill-requires-clause-sinks : goal.refill-requires-clause-sinks
refill-requires-clause-sinks c =
    let rest = c.pop.new.self.items in
    let popped : c.args.heap.now.items ≡ rest ++ c.in_ok-last.last ∷ [] = c.in_ok-last.ensures.items in
    let there : vec_len c.pop.new.self ≢ 0 = eqb-false (vec_len c.pop.new.self) 0 (sym c.if-is_empty.ensures) in
    let some : 0 < length rest = omega (arith, c.pop.new.self.ok.0) in
    rw c.deref_mut.ensures.value (refilled_sinks rest c.args.places.now c.in_ok-last.last
    (rw popped at c.requires.heap.placed) some c.args.activities.now (rw popped at c.requires.heap.ordered))

pub returns-clause-heap : goal.returns-clause-heap
returns-clause-heap c =
    let rest = c.pop.new.self.items in
    let same : length c.refill.new.heap ≡ length rest =
    omega (
      arith,
      c.refill.ensures.moved.count,
      ap length c.deref_mut.ensures.value,
      length-set c.deref_mut.result.now 0 c.in_ok-last.last,
    ) in
    let vars : length c.refill.new.places ≡ length c.args.places.now = c.refill.ensures.moved.vars
    ∙ length-set (set c.args.places.now c.index-first.result.now 0) c.in_ok-last.last 1
    ∙ length-set c.args.places.now c.index-first.result.now 0 in
    rw (write_back c.pop.new.self.len c.refill.new.heap rest same (omega (arith, c.pop.new.self.ok.0))) (record {
      placed = c.refill.ensures.moved.placed;
      ordered = c.refill.ensures.ordered;
      count = omega (arith, c.requires.heap.count, vars);
      room = omega (arith, c.requires.heap.room, vars);
      small = omega (arith, c.requires.heap.small, vars);
    })

pub returns-clause-places : goal.returns-clause-places
returns-clause-places c =
    let rest = c.pop.new.self.items in
    let popped : c.args.heap.now.items ≡ rest ++ c.in_ok-last.last ∷ [] = c.in_ok-last.ensures.items in
    let there : vec_len c.pop.new.self ≢ 0 = eqb-false (vec_len c.pop.new.self) 0 (sym c.if-is_empty.ensures) in
    let some : 0 < length rest = omega (arith, c.pop.new.self.ok.0) in
    let first : c.index-first.result.now ≡ get_or rest 0 0 = c.index-first.ensures
    ∙ get_or_default_zero rest 0 c.index-first.result.now some in
    c.refill.ensures.moved.held ∙ rw first
    (refilled_held rest c.args.places.now c.in_ok-last.last (rw popped at c.requires.heap.placed) some)
