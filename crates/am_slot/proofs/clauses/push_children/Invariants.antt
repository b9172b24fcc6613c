use Rattle.std.proofs.Common.{◌≡◌, ◌++◌, take}
use Rattle.am_tree.specs.Slots.{offered, shared}
use Rattle.am_slot.specs.Clauses.{children}
use Rattle.am_slot.proofs.clauses.push_children.Given as goal

abbrev pub invariant-loop-child : goal.invariant-loop-child
invariant-loop-child l =
    l.next.items
    ≡ l.initial.next.items
    ++ children l.x (offered l.rules l.below l.symbol) (take l.child-index (shared l.rules l.below l.symbol))
