use Rattle.std.proofs.Common.{◌≡◌, ◌++◌, drop}
use Rattle.am_tree.specs.Slots.{next_level}
use Rattle.am_slot.proofs.rules.RuleTable.next_level.Given as goal

abbrev pub invariant-loop-symbol : goal.invariant-loop-symbol
invariant-loop-symbol l =
    l.next.items ++ next_level l.self l.below (drop l.symbol-index l.symbols) ≡ next_level l.self l.below l.symbols
