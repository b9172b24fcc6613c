use Rattle.std.proofs.Common.{◌+◌, ◌*◌, drop}
use Rattle.am_gate.specs.Circuit.{Net, Grows}
use Rattle.am_gate.specs.Build.{Follows}
use Rattle.am_query.specs.Formulas.{covered, each}
use Rattle.am_query.specs.inside.Weights.{example_weight}
use Rattle.am_query.proofs.statements.Statements.cover_all.Given as goal

abbrev pub invariant-loop-e : goal.invariant-loop-e
invariant-loop-e l = record {
  follows : (end : Net) → Follows (each (covered l.fn.self) (drop l.e-index l.fn.pos)) l.circuit tt end →
      Follows (each (covered l.fn.self) l.fn.pos) l.initial.circuit tt end;
  grows : Grows (l.e-index * (example_weight l.fn.self + 1)) l.initial.circuit l.circuit;
}
