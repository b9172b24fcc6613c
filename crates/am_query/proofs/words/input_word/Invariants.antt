use Rattle.std.proofs.Common.{◌≡◌, ℕ, ◌+◌, ◌-◌, ◌≤◌, List, ◌++◌, length, replicate}
use Rattle.am_gate.specs.Circuit.{Event.Input, Net, Grows, HasInputs}
use Rattle.am_gate.specs.Build.{ask, Follows}
use Rattle.am_blast.specs.Words.{IsWord}
use Rattle.am_blast.specs.Circuits.{in_turn}
use Rattle.am_query.proofs.words.input_word.Given as goal

abbrev pub invariant-loop : goal.invariant-loop
invariant-loop l = record {
  place : l.counter ≤ l.fn.w;
  follows : (rest : List ℕ) (end : Net) →
      Follows (in_turn (replicate (l.fn.w - l.counter) (ask Input))) l.circuit rest end →
      Follows (in_turn (replicate l.fn.w (ask Input))) l.initial.circuit (l.word ++ rest) end;
  word : IsWord l.counter l.circuit.vars l.word;
  grows : Grows l.counter l.initial.circuit l.circuit;
  inputs : HasInputs l.base l.circuit;
  count : length l.base ≡ length l.initial.base + l.counter;
}
