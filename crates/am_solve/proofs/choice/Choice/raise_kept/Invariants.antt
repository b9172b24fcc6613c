use Rattle.std.proofs.Common.{◌≡◌}
use Rattle.am_solve.specs.inside.Choosing.{KeepsHeld}
use Rattle.am_solve.proofs.choice.Choice.raise_kept.Given as goal

abbrev pub invariant-loop-l : goal.invariant-loop-l
invariant-loop-l l = record {
  order : KeepsHeld l.initial.self.order l.self.order;
  phases : l.self.phases ≡ l.initial.self.phases;
}
