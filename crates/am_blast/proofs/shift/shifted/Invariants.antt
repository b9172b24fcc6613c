use Rattle.std.proofs.Common.{ℕ, List, ◌*◌, length, drop}
use Rattle.am_gate.specs.Circuit.{Net, Grows, Begins}
use Rattle.am_gate.specs.Build.{Follows}
use Rattle.am_blast.specs.Words.{IsWord}
use Rattle.am_blast.specs.Shifts.{shifted_from}
use Rattle.am_blast.specs.Shifts.{moved}
use Rattle.am_blast.proofs.shift.shifted.Given as goal

abbrev pub invariant-loop-k : goal.invariant-loop-k
invariant-loop-k l = record {
  follows : (r : List ℕ) (end : Net) →
      Follows (shifted_from (moved l.direction l.fill) l.k l.word (drop l.k l.by)) l.circuit r end →
      Follows (shifted_from (moved l.direction l.fill) 0 l.a l.by) l.initial.circuit r end;
  word : IsWord (length l.a) l.circuit.vars l.word;
  grows : Grows (l.k * length l.a) l.initial.circuit l.circuit;
  begins : Begins l.initial.circuit l.circuit;
}
