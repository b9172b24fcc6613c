use Rattle.std.proofs.Common.{◌≡◌, take}
use Rattle.am_blast.specs.Shifts.{moved}
use Rattle.am_blast.proofs.shift.moved.Given as goal

abbrev pub invariant-loop-i : goal.invariant-loop-i
invariant-loop-i l = l.literals ≡ take l.i (moved l.direction l.fill l.n l.word)
