use Rattle.std.proofs.Common.{map, take}
use Rattle.am_all.specs.inside.Cases.{AreIn}
use Rattle.am_all.proofs.cases.are_in.Given as goal

abbrev pub invariant-loop-i : goal.invariant-loop-i
invariant-loop-i l = AreIn (take l.i (map (λ v. v.now) l.values)) (take l.i l.words)
