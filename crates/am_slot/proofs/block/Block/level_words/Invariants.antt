use Rattle.std.proofs.Common.{◌≡◌, ◌+◌, ◌≤◌, length, drop}
use Rattle.std.specs.Prelude.{All}
use Rattle.am_gate.specs.Circuit.{Grows, Begins}
use Rattle.am_gate.specs.Build.{Follows}
use Rattle.am_blast.specs.Words.{IsWord}
use Rattle.am_tree.specs.Slots.{next_level}
use Rattle.am_tree.specs.Weights.{level_weight}
use Rattle.am_slot.specs.Selectors.{widths}
use Rattle.am_slot.specs.Blocks.{level_words}
use Rattle.am_slot.proofs.block.Block.level_words.Given as goal

abbrev pub decreases-loop-i : goal.decreases-loop-i
decreases-loop-i l = l.i

abbrev pub invariant-loop-i : goal.invariant-loop-i
invariant-loop-i l = record {
  place : l.i ≤ length l.symbols;
  follows : Follows
      (level_words l.self.rules.now l.self.width l.self.fields.now l.below l.selector (drop l.i l.symbols)
      (drop l.last l.next))
      l.initial.circuit l.words.items l.circuit;
  last : l.last + length (next_level l.self.rules.now l.below (drop l.i l.symbols)) ≡ length l.next;
  selector : l.selector + widths l.self.rules.now l.below (drop l.i l.symbols) ≡ l.end;
  many : length l.words.items ≡ length (drop l.i l.symbols);
  each : All (IsWord l.self.width l.circuit.vars) l.words.items;
  grows : Grows (level_weight l.self.rules.now l.self.width l.below (drop l.i l.symbols)) l.initial.circuit l.circuit;
  begins : Begins l.initial.circuit l.circuit;
}
