use Rattle.std.proofs.Common.{ℕ, List, ◌++◌, drop}
use Rattle.am_gate.specs.Circuit.{Net, Grows, Begins}
use Rattle.am_gate.specs.Build.{Follows}
use Rattle.am_blast.specs.Bitwise.{bitwise}
use Rattle.am_blast.proofs.bitwise.at_each_bit.Given as goal

abbrev pub invariant-loop-i : goal.invariant-loop-i
invariant-loop-i l = record {
  follows : (rest : List ℕ) (end : Net) → Follows (bitwise l.gate (drop l.i l.a) (drop l.i l.b)) l.circuit rest end →
      Follows (bitwise l.gate l.a l.b) l.initial.circuit (l.word ++ rest) end;
  grows : Grows l.i l.initial.circuit l.circuit;
  begins : Begins l.initial.circuit l.circuit;
}
