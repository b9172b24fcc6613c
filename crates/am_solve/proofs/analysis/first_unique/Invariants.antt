use Rattle.std.proofs.Common.{◌≡◌, ◌≤◌, ◌<◌, ◌++◌, ◌+◌, length, true}
use Rattle.am_trail.specs.Trails.{literals}
use Rattle.am_chain.specs.inside.Marks.{mark_at}
use Rattle.am_solve.specs.inside.Marking.{IsCounted, IsDerivedDownTo}
use Rattle.am_solve.proofs.analysis.first_unique.Given as goal

abbrev pub invariant-loop-marks : goal.invariant-loop-marks
invariant-loop-marks l = record {
  start : l.marks.start ≡ l.start;
  len : length l.marks.places.items ≡ length l.trail.entries;
  some : 0 < l.marks.count;
  high : l.start ≤ l.place;
  here : mark_at l.marks.places.items l.place ≡ true;
  counted : IsCounted (literals l.trail.entries) l.marks.start l.marks.places.items l.marks.kept.items l.marks.count;
  derived : IsDerivedDownTo (l.given ++ l.learnt) (literals l.trail.entries) l.marks.places.items l.conflict l.steps
      (l.place + 1);
}

abbrev pub decreases-loop-marks : goal.decreases-loop-marks
decreases-loop-marks l = l.place
