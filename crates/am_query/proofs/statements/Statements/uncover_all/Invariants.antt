use Rattle.std.proofs.Common.{◌+◌, ◌*◌, drop}
use Rattle.am_gate.specs.Circuit.{Net, Grows}
use Rattle.am_gate.specs.Build.{Follows}
use Rattle.am_query.specs.Formulas.{uncovered, each}
use Rattle.am_query.specs.inside.Weights.{example_weight}
use Rattle.am_query.proofs.statements.Statements.uncover_all.Given as goal

abbrev pub invariant-loop-e : goal.invariant-loop-e
invariant-loop-e l = record {
  follows : (end : Net) → Follows (each (uncovered l.fn.self) (drop l.e-index l.fn.neg)) l.circuit tt end →
      Follows (each (uncovered l.fn.self) l.fn.neg) l.initial.circuit tt end;
  grows : Grows (l.e-index * (example_weight l.fn.self + 1)) l.initial.circuit l.circuit;
}
