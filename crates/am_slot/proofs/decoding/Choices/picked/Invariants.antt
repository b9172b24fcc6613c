use Rattle.std.proofs.Common.{◌≡◌, ◌+◌, None, length}
use Rattle.am_lit.specs.Truth.{value_at}
use Rattle.am_tree.specs.Slots.{offered_by}
use Rattle.am_slot.proofs.Loops.{offered_from}
use Rattle.am_slot.proofs.Numbers.{number_of}
use Rattle.am_slot.proofs.decoding.Choices.picked.Given as goal

abbrev pub invariant-loop-i : goal.invariant-loop-i
invariant-loop-i l = record {
  follows : number_of (value_at l.self.assignment.now.values) l.selector l.last (offered_from l.below l.i l.productions)
      ≡ number_of (value_at l.self.assignment.now.values) l.x None (offered_by l.below l.productions);
  selectors : l.selector + length (offered_from l.below l.i l.productions)
      ≡ l.x + length (offered_by l.below l.productions);
}
