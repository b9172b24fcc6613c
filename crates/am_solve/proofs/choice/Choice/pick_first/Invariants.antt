use Rattle.std.proofs.Common.{take, All}
use Rattle.am_trail.specs.Trails.{HasValue}
use Rattle.am_solve.proofs.choice.Choice.pick_first.Given as goal

abbrev pub invariant-loop-variable : goal.invariant-loop-variable
invariant-loop-variable l = All (HasValue l.trail.entries) (take l.variable-index l.first)
