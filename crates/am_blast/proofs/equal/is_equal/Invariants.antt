use Rattle.std.proofs.Common.{ℕ, ◌*◌, drop}
use Rattle.am_gate.specs.Circuit.{Net, IsLiteral, Grows, Begins, truth}
use Rattle.am_gate.specs.Build.{Follows}
use Rattle.am_blast.specs.Comparisons.{equal_from}
use Rattle.am_blast.proofs.equal.is_equal.Given as goal

abbrev pub invariant-loop-i : goal.invariant-loop-i
invariant-loop-i l = record {
  follows : (r : ℕ) (end : Net) → Follows (equal_from l.equal (drop l.i l.a) (drop l.i l.b)) l.circuit r end →
      Follows (equal_from truth l.a l.b) l.initial.circuit r end;
  inside : IsLiteral l.circuit.vars l.equal;
  grows : Grows (2 * l.i) l.initial.circuit l.circuit;
  begins : Begins l.initial.circuit l.circuit;
}
