use Rattle.std.proofs.Common.{None, sym, ◌∙◌}
use Rattle.am_lit.specs.Truth.{value_at}
use Rattle.am_tree.specs.Slots.{offered_by}
use Rattle.am_slot.proofs.Loops.{offered-end}
use Rattle.am_slot.proofs.Numbers.{number_of-picked}
use Rattle.am_slot.proofs.decoding.Choices.picked.Goals as goal

pub returns : goal.returns
returns c =
    let none = offered-end c.args.below c.loop-i.i c.args.productions.now c.loop-i-test.false in
    (rw none at c.loop-i.invariant.follows)
    ∙ sym
    (number_of-picked (value_at c.args.self.now.assignment.now.values) c.args.x None
    (offered_by c.args.below c.args.productions.now))
