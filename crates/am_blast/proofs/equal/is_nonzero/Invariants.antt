use Rattle.std.proofs.Common.{ℕ, drop}
use Rattle.am_gate.specs.Circuit.{Net, IsLiteral, Grows, Begins, falsity}
use Rattle.am_gate.specs.Build.{Follows}
use Rattle.am_blast.specs.Comparisons.{nonzero_from}
use Rattle.am_blast.proofs.equal.is_nonzero.Given as goal

abbrev pub invariant-loop-l : goal.invariant-loop-l
invariant-loop-l s = record {
  follows : (r : ℕ) (end : Net) → Follows (nonzero_from s.nonzero (drop s.l-index s.a)) s.circuit r end →
      Follows (nonzero_from falsity s.a) s.initial.circuit r end;
  inside : IsLiteral s.circuit.vars s.nonzero;
  grows : Grows s.l-index s.initial.circuit s.circuit;
  begins : Begins s.initial.circuit s.circuit;
}
