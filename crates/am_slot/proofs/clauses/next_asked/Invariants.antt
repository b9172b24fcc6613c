use Rattle.std.proofs.Common.{◌≡◌, ◌+◌, ◌++◌, drop}
use Rattle.am_slot.specs.Selectors.{widths}
use Rattle.am_slot.specs.Clauses.{next_asked, symbols}
use Rattle.am_slot.proofs.clauses.next_asked.Given as goal

abbrev pub invariant-loop-slot : goal.invariant-loop-slot
invariant-loop-slot l = record {
  follows : l.next.items ++ next_asked l.rules l.below l.selector (drop l.slot-index l.level)
      ≡ next_asked l.rules l.below l.x l.level;
  selectors : l.selector + widths l.rules l.below (symbols (drop l.slot-index l.level))
      ≡ l.x + widths l.rules l.below (symbols l.level);
}
