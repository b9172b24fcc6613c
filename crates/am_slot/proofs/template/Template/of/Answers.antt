use Rattle.std.proofs.Common.{arith}
use Rattle.am_slot.proofs.Bounds.{selectors_most}
use Rattle.am_slot.proofs.template.Template.of.Goals as goal

pub room-requires-clause-room : goal.room-requires-clause-room
room-requires-clause-room c =
    let g = c.args.grammar.now in
    rw (c.in_ok-rules.ensures, c.as_slice.ensures)
    (omega (arith, selectors_most g.rules g.starts g.depth g.well_formed c.requires))
