use Rattle.std.proofs.Common.{length}
use Rattle.am_solve.specs.inside.Choosing.{IsReady}
use Rattle.am_solve.proofs.choice.Choice.pick_active.Given as goal

abbrev pub invariant-loop-variable : goal.invariant-loop-variable
invariant-loop-variable l = IsReady l.self.order l.self.phases.items l.trail.vars l.trail.entries

abbrev pub decreases-loop-variable : goal.decreases-loop-variable
decreases-loop-variable l = length l.self.order.held
