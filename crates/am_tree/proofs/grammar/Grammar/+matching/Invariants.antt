use Rattle.std.proofs.Common.{◌≡◌, ℕ, ◌+◌, ◌*◌, ◌<◌, length, take, slice_index_or}
use Rattle.std.specs.Prelude.{None}
use Rattle.std.specs.List.{AllZip}
use Rattle.am_tree.specs.Trees.{IsFound}
use Rattle.am_tree.specs.inside.Matched.{AreFound}
use Rattle.am_tree.proofs.grammar.Grammar.+matching.Given as goal

abbrev pub decreases-table : goal.decreases-table
decreases-table l = 2 * l.depth

abbrev pub decreases-tables : goal.decreases-tables
decreases-tables l = 2 * l.depth + 1

abbrev pub invariant-table-loop-productions : goal.invariant-table-loop-productions
invariant-table-loop-productions l = record {
  len : length l.table ≡ l.productions-index;
  found : (n : ℕ) → n < l.productions-index → IsFound l.self.rules l.depth n l.term (slice_index_or l.table n None);
}

abbrev pub invariant-tables-loop-arg : goal.invariant-tables-loop-arg
invariant-tables-loop-arg l = AllZip (AreFound l.self.rules l.depth) (take l.arg-index l.arg-items) l.tables
