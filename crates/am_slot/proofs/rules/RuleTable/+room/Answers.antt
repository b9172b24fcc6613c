use Rattle.std.proofs.Common.{◌<◌, ◌∙◌, arith}
use Rattle.am_slot.proofs.Levels.{room-widths, room-above}
use Rattle.am_slot.proofs.Tables.{room-zero, next-whole}
use Rattle.am_slot.proofs.rules.RuleTable.+room.Goals as goal

pub end_of-level-requires-clause-room : goal.end_of-level-requires-clause-room
end_of-level-requires-clause-room t c =
    omega (arith, room-widths c.args.self.now c.args.below c.args.symbols.now, c.requires.room)

pub returns-then-below-eq0 : goal.returns-then-below-eq0
returns-then-below-eq0 t c =
    c.end_of-level.ensures ∙ room-zero c.args.self.now c.args.below c.args.symbols.now c.if-below-eq0.true

pub room-requires : goal.room-requires
room-requires t c =
    let rules = c.args.self.now in
    let ns = c.args.symbols.now in
    let pos : 0 < c.args.below = omega arith in
    let same = c.as_slice.ensures.value ∙ c.in_ok-next.ensures in (
      omega arith,
      (
        c.requires.whole,
        (
          rw same (next-whole rules c.args.below ns c.requires.whole),
          rw same (omega (arith, room-above rules c.args.below ns pos, c.requires.room)),
        ),
      ),
    )

pub overflow_add-result : goal.overflow_add-result
overflow_add-result t c =
    let pos : 0 < c.args.below = omega arith in
    let same = c.as_slice.ensures.value ∙ c.in_ok-next.ensures in
    let rest = rw same at c.in_ok-room.ensures in
    omega (
      arith,
      rest,
      c.end_of-level.ensures,
      room-above c.args.self.now c.args.below c.args.symbols.now pos,
      c.requires.room,
    )

pub returns : goal.returns
returns t c =
    let pos : 0 < c.args.below = omega arith in
    let same = c.as_slice.ensures.value ∙ c.in_ok-next.ensures in
    let rest = rw same at c.in_ok-room.ensures in
    omega (arith, rest, c.end_of-level.ensures, room-above c.args.self.now c.args.below c.args.symbols.now pos)
