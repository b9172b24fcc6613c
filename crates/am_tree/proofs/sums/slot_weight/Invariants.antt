use Rattle.std.proofs.Common.{◌≡◌, ◌+◌, ◌*◌, ◌≤◌}
use Rattle.am_tree.specs.Slots.{offered_by}
use Rattle.am_tree.specs.Weights.{slot_weight}
use Rattle.am_tree.proofs.Loops.{offered_from}
use Rattle.am_tree.proofs.sums.slot_weight.Given as goal

abbrev pub invariant-loop-production : goal.invariant-loop-production
invariant-loop-production l = record {
  rest : l.sum + slot_weight l.w (offered_from l.below l.production-index l.productions)
      ≡ slot_weight l.w (offered_by l.below l.productions);
  most : l.sum ≤ 18440 * l.production-index;
}
