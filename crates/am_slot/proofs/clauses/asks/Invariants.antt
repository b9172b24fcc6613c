use Rattle.std.proofs.Common.{◌≡◌, ◌+◌, ◌++◌, ◌≤◌, length}
use Rattle.am_tree.specs.Slots.{offered_by}
use Rattle.am_slot.specs.Clauses.{asks}
use Rattle.am_slot.proofs.Loops.{offered_from}
use Rattle.am_slot.proofs.clauses.asks.Given as goal

abbrev pub invariant-loop-production : goal.invariant-loop-production
invariant-loop-production l = record {
  follows : l.by ++ asks l.child l.selector (offered_from l.below l.production-index l.productions)
      ≡ asks l.child l.x (offered_by l.below l.productions);
  selectors : l.selector + length (offered_from l.below l.production-index l.productions)
      ≡ l.x + length (offered_by l.below l.productions);
  few : length l.by ≤ l.production-index;
}
