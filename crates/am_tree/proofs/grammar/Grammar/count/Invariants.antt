use Rattle.std.proofs.Common.{◌≡◌, length}
use Rattle.am_tree.specs.Counts.{tree_count}
use Rattle.am_tree.specs.inside.Counted.{AreCounts}
use Rattle.am_tree.proofs.grammar.Grammar.count.Given as goal

abbrev pub invariant-loop : goal.invariant-loop
invariant-loop l = record {
  len : length l.counts.items ≡ length l.self.rules;
  counts : AreCounts (tree_count l.self.rules l.counter) l.counts.items;
}
