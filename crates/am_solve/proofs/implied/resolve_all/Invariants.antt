use Rattle.std.proofs.Common.{◌≡◌, ◌≤◌, ◌++◌, length}
use Rattle.am_trail.specs.Trails.{literals}
use Rattle.am_solve.specs.inside.Marking.{IsCounted, IsResolved}
use Rattle.am_solve.proofs.implied.resolve_all.Given as goal

abbrev pub invariant-loop-i : goal.invariant-loop-i
invariant-loop-i l = record {
  inside : l.i ≤ length l.trail.entries;
  start : l.marks.start ≡ 0;
  len : length l.marks.places.items ≡ length l.trail.entries;
  counted : IsCounted (literals l.trail.entries) l.marks.start l.marks.places.items l.marks.kept.items l.marks.count;
  resolved : IsResolved (l.given ++ l.learnt) l.trail.entries l.marks.places.items l.conflict l.steps l.i;
}

abbrev pub decreases-loop-i : goal.decreases-loop-i
decreases-loop-i l = l.i
