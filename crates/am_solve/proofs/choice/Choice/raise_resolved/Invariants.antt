use Rattle.std.proofs.Common.{◌≡◌}
use Rattle.am_solve.specs.inside.Choosing.{KeepsHeld}
use Rattle.am_solve.proofs.choice.Choice.raise_resolved.Given as goal

abbrev pub invariant-loop-step : goal.invariant-loop-step
invariant-loop-step l = record {
  order : KeepsHeld l.initial.self.order l.self.order;
  phases : l.self.phases ≡ l.initial.self.phases;
}
