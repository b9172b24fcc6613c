use Rattle.std.proofs.Common.{◌≡◌, ◌<◌, ℕ, false, length, get_or}
use Rattle.am_trail.specs.Trails.{literals}
use Rattle.am_solve.proofs.Valuing.{HasItsValue}
use Rattle.am_solve.proofs.assignment.assignment_of.Given as goal

abbrev pub invariant-loop-variable : goal.invariant-loop-variable
invariant-loop-variable l = record {
  long : length l.values ≡ l.variable;
  values : (v : ℕ) → v < l.variable → HasItsValue (literals l.trail.entries) v (get_or l.values v false);
}
