use Rattle.std.proofs.Common.{◌+◌, ◌≤◌, [], ◌∷◌, length, length-append, arith, ap}
use Rattle.am_trail.proofs.Entries.{put_placed, put_room}
use Rattle.am_trail.proofs.places.put.Goals as goal

pub push_reserved-requires : goal.push_reserved-requires
push_reserved-requires c =
    let room : length c.args.entries.now.items + 1 ≤ length c.args.places.now.items =
    put_room c.args.entries.now.items c.args.places.now.items c.requires.placed c.args.entry
    (omega (arith, c.args.places.now.ok.0)) c.requires.free in
    omega (arith, c.args.places.now.ok.0, c.args.entries.now.ok.0)

pub overflow_cast-place : goal.overflow_cast-place
overflow_cast-place c =
    let room : length c.args.entries.now.items + 1 ≤ length c.args.places.now.items =
    put_room c.args.entries.now.items c.args.places.now.items c.requires.placed c.args.entry
    (omega (arith, c.args.places.now.ok.0)) c.requires.free in
    omega (
      arith,
      c.args.places.now.ok.0,
      ap length c.push_reserved.ensures.items,
      length-append c.args.entries.now.items (c.args.entry ∷ []),
      c.push_reserved.new.self.ok.0,
    )

pub returns-clause-placed : goal.returns-clause-placed
returns-clause-placed c =
    rw (c.push_reserved.ensures.items, c.variable-variable.ensures)
    (put_placed c.args.entries.now.items c.args.places.now.items c.requires.placed c.args.entry
    (omega (arith, c.args.places.now.ok.0)) c.requires.free c.len-place.result
    (omega (
      arith,
      ap length c.push_reserved.ensures.items,
      length-append c.args.entries.now.items
          (c.args.entry ∷ []),
      c.push_reserved.new.self.ok.0,
    )))
