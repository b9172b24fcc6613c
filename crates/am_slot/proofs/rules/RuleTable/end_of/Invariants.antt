use Rattle.std.proofs.Common.{◌≡◌, ◌+◌, drop}
use Rattle.am_slot.specs.Selectors.{widths}
use Rattle.am_slot.proofs.rules.RuleTable.end_of.Given as goal

abbrev pub invariant-loop-symbol : goal.invariant-loop-symbol
invariant-loop-symbol l =
    l.end + widths l.self l.below (drop l.symbol-index l.symbols) ≡ l.x + widths l.self l.below l.symbols
