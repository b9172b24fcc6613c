use Rattle.am_trail.specs.Trails.{literals}
use Rattle.am_solve.specs.inside.Marking.{AreKeptLiterals}
use Rattle.am_solve.proofs.implied.marked_before.Given as goal

abbrev pub invariant-loop-i : goal.invariant-loop-i
invariant-loop-i l = AreKeptLiterals (literals l.trail.entries) l.i l.marks.places.items l.kept.items
