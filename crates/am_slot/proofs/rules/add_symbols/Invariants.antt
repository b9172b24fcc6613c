use Rattle.std.proofs.Common.{◌≡◌, ◌++◌, map, take}
use Rattle.am_slot.proofs.rules.add_symbols.Given as goal

abbrev pub invariant-loop-child : goal.invariant-loop-child
invariant-loop-child l = l.next.items ≡ l.initial.next.items ++ map (λ a. a.symbol) (take l.child-index l.children)
