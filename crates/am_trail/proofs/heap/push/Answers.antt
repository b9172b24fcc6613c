use Rattle.std.proofs.Common.{◌≡◌, ◌+◌, [], ◌∷◌, ap, length, length-append, arith}
use Rattle.am_trail.proofs.Placing.{placed_more, room}
use Rattle.am_trail.proofs.heap.push.Goals as goal

pub push_reserved-requires : goal.push_reserved-requires
push_reserved-requires c = omega (
  arith,
  room c.args.heap.now.items c.args.places.now c.requires.placed c.args.v
      c.requires.v c.requires.free,
  c.args.heap.now.ok.0,
)

pub overflow_cast-places : goal.overflow_cast-places
overflow_cast-places c = omega (
  arith,
  room c.args.heap.now.items c.args.places.now c.requires.placed c.args.v
      c.requires.v c.requires.free,
  ap length c.push_reserved.ensures.items,
  length-append c.args.heap.now.items
      (c.args.v ∷ []),
  c.push_reserved.new.self.ok.0,
)

pub returns-clause-placed : goal.returns-clause-placed
returns-clause-placed c =
    let count : c.len.result ≡ length c.args.heap.now.items + 1 =
    omega (
      arith,
      ap length c.push_reserved.ensures.items,
      length-append c.args.heap.now.items (c.args.v ∷ []),
      c.push_reserved.new.self.ok.0,
    ) in
    rw (c.push_reserved.ensures.items, count)
    (placed_more c.args.heap.now.items c.args.places.now c.requires.placed c.args.v c.requires.v c.requires.free)
