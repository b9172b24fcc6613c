use Rattle.std.proofs.Common.{◌≡◌, ◌≤◌, take}
use Rattle.am_trail.specs.Trails.{literals}
use Rattle.am_solve.specs.inside.Marking.{IsCounted, IsMarkedMore}
use Rattle.am_solve.proofs.analysis.mark_all.Given as goal

abbrev pub invariant-loop-l : goal.invariant-loop-l
invariant-loop-l l = record {
  more : IsMarkedMore (literals l.trail.entries) l.initial.marks.places.items l.marks.places.items
      (take l.l-index l.clause) l.besides;
  start : l.marks.start ≡ l.initial.marks.start;
  counted : IsCounted (literals l.trail.entries) l.marks.start l.marks.places.items l.marks.kept.items l.marks.count;
  grows : l.initial.marks.count ≤ l.marks.count;
}
