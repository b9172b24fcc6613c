use Rattle.std.proofs.Common.{ℕ, ◌*◌, List, ◌++◌, drop}
use Rattle.am_gate.specs.Circuit.{Net, IsLiteral, Grows, Begins}
use Rattle.am_gate.specs.Build.{Follows}
use Rattle.am_blast.specs.Sums.{adder}
use Rattle.am_blast.proofs.sum.add_words.Given as goal

abbrev pub invariant-loop-i : goal.invariant-loop-i
invariant-loop-i l = record {
  follows : (r : List ℕ × ℕ) (end : Net) → Follows (adder (drop l.i l.a) (drop l.i l.b) l.carry) l.circuit r end →
      Follows (adder l.a l.b l.fn.c) l.initial.circuit (l.word ++ r.0, r.1) end;
  carry : IsLiteral l.circuit.vars l.carry;
  grows : Grows (3 * l.i) l.initial.circuit l.circuit;
  begins : Begins l.initial.circuit l.circuit;
}
