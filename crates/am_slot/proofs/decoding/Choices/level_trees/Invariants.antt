use Rattle.std.proofs.Common.{◌≡◌, ◌+◌, ◌++◌, drop, length}
use Rattle.am_lit.specs.Truth.{value_at}
use Rattle.am_tree.specs.Slots.{next_level}
use Rattle.am_slot.specs.Selectors.{widths}
use Rattle.am_slot.specs.Decoded.{level_trees}
use Rattle.am_slot.proofs.decoding.Choices.level_trees.Given as goal

abbrev pub invariant-loop-symbol : goal.invariant-loop-symbol
invariant-loop-symbol l = record {
  follows : l.trees
      ++ level_trees l.self.rules.now (value_at l.self.assignment.now.values) l.below l.selector
      (drop l.symbol-index l.symbols) l.rest
      ≡ level_trees l.self.rules.now (value_at l.self.assignment.now.values) l.below l.x l.symbols l.next;
  selectors : l.selector + widths l.self.rules.now l.below (drop l.symbol-index l.symbols)
      ≡ l.x + widths l.self.rules.now l.below l.symbols;
  rest : length l.rest ≡ length (next_level l.self.rules.now l.below (drop l.symbol-index l.symbols));
}
