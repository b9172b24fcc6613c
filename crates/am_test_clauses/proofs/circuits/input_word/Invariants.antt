use Rattle.am_gate.specs.Circuit.{Grows}
use Rattle.am_blast.specs.Words.{IsWord}
use Rattle.am_test_clauses.proofs.circuits.input_word.Given as goal

abbrev pub invariant-loop : goal.invariant-loop
invariant-loop l = record {
  word : IsWord l.counter l.circuit.vars l.word;
  grows : Grows l.counter l.initial.circuit l.circuit;
}
