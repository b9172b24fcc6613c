use Rattle.std.proofs.Common.{take}
use Rattle.std.specs.List.{AllZip}
use Rattle.am_all.specs.inside.Candidates.{AreCandidates}
use Rattle.am_all.proofs.candidates.all_candidates.Given as goal

abbrev pub invariant-loop-start : goal.invariant-loop-start
invariant-loop-start l = AllZip (AreCandidates l.p l.cases) (take l.start-index l.start-items) l.lists
