use Rattle.std.proofs.Common.{◌≡◌, ◌+◌, ◌++◌, drop}
use Rattle.am_slot.specs.Selectors.{widths}
use Rattle.am_slot.specs.Clauses.{level_clauses, symbols}
use Rattle.am_slot.proofs.clauses.push_level.Given as goal

abbrev pub invariant-loop-slot : goal.invariant-loop-slot
invariant-loop-slot l = record {
  follows : l.clauses ++ level_clauses l.rules l.below l.selector (drop l.slot-index l.level)
      ≡ l.initial.clauses ++ level_clauses l.rules l.below l.x l.level;
  selectors : l.selector + widths l.rules l.below (symbols (drop l.slot-index l.level))
      ≡ l.x + widths l.rules l.below (symbols l.level);
}
