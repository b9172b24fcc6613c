use Rattle.std.proofs.Common.{ℕ, List, ◌≡◌, ◌+◌, length}
use Rattle.am_gate.specs.Circuit.{Net, Grows, Begins}
use Rattle.am_gate.specs.Build.{Follows}
use Rattle.am_blast.specs.Words.{IsWord, zeros}
use Rattle.am_tree.specs.Slots.{offered_by}
use Rattle.am_tree.specs.Weights.{slot_weight}
use Rattle.am_slot.specs.Blocks.{slot_word}
use Rattle.am_slot.specs.inside.Fits.{AllStand}
use Rattle.am_slot.proofs.Loops.{offered_from}
use Rattle.am_slot.proofs.block.Block.slot_word.Given as goal

abbrev pub invariant-loop-production : goal.invariant-loop-production
invariant-loop-production l = record {
  follows : (rest : List ℕ) (end : Net) →
      Follows
      (slot_word l.self.width l.self.fields.now l.children.arguments.now l.children.words.now l.selector l.word
      (offered_from l.below l.production-index l.productions))
      l.circuit rest end →
      Follows
      (slot_word l.self.width l.self.fields.now l.children.arguments.now l.children.words.now l.x
      (zeros l.self.width) (offered_by l.below l.productions))
      l.initial.circuit rest end;
  word : IsWord l.self.width l.circuit.vars l.word;
  stand : AllStand l.children.arguments.now (offered_from l.below l.production-index l.productions);
  selectors : l.selector + length (offered_from l.below l.production-index l.productions)
      ≡ l.x + length (offered_by l.below l.productions);
  grows : (k : ℕ) × Grows k l.initial.circuit l.circuit
      × (k + slot_weight l.self.width (offered_from l.below l.production-index l.productions)
      ≡ slot_weight l.self.width (offered_by l.below l.productions));
  begins : Begins l.initial.circuit l.circuit;
}
