use Rattle.std.proofs.Common.{◌≡◌, ℕ, ◌+◌, ◌-◌, ◌*◌, ◌≤◌, List, ◌++◌, length, replicate}
use Rattle.am_gate.specs.Circuit.{Net, Grows, HasInputs}
use Rattle.am_gate.specs.Build.{Follows}
use Rattle.am_blast.specs.Circuits.{in_turn}
use Rattle.am_query.specs.Formulas.{input_word}
use Rattle.am_query.specs.inside.Words.{AreWordsIn}
use Rattle.am_query.proofs.words.input_words.Given as goal

abbrev pub invariant-loop : goal.invariant-loop
invariant-loop l = record {
  place : l.counter ≤ l.count;
  follows : (rest : List (List ℕ)) (end : Net) →
      Follows (in_turn (replicate (l.count - l.counter) (input_word l.w))) l.circuit rest end →
      Follows (in_turn (replicate l.count (input_word l.w))) l.initial.circuit (l.words ++ rest) end;
  words : AreWordsIn l.w l.counter l.circuit.vars l.words;
  grows : Grows (l.counter * l.w) l.initial.circuit l.circuit;
  inputs : HasInputs l.base l.circuit;
  count : length l.base ≡ length l.initial.base + l.counter * l.w;
}
