use Rattle.std.proofs.Common.{◌≡◌, ◌≤◌, ◌+◌, length}
use Rattle.am_tree.specs.Slots.{offered_by}
use Rattle.am_slot.proofs.Loops.{offered_from}
use Rattle.am_slot.proofs.rules.count_offered.Given as goal

abbrev pub invariant-loop-production : goal.invariant-loop-production
invariant-loop-production l = record {
  few : l.count ≤ l.production-index;
  rest : l.count + length (offered_from l.below l.production-index l.productions)
      ≡ length (offered_by l.below l.productions);
}
