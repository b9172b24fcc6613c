use Rattle.std.proofs.Common.{map, take}
use Rattle.am_all.specs.inside.Cases.{AreOutcomesAt}
use Rattle.am_all.proofs.cases.outcomes.Given as goal

abbrev pub invariant-loop-row : goal.invariant-loop-row
invariant-loop-row l = AreOutcomesAt l.p (take l.row-index (map (λ row. map (λ c. c.now) row) l.rows)) l.outcomes
