use Rattle.std.proofs.Common.{◌≡◌, take}
use Rattle.am_all.specs.inside.Candidates.{values_at}
use Rattle.am_all.proofs.candidates.values.Given as goal

abbrev pub invariant-loop-case : goal.invariant-loop-case
invariant-loop-case l = l.values ≡ values_at l.w (take l.case-index l.cases) l.term
