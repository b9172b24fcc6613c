use Rattle.std.proofs.Common.{map, take}
use Rattle.std.specs.List.{AllZip}
use Rattle.am_all.specs.inside.Cases.{IsCaseBy}
use Rattle.am_all.proofs.cases.cases.Given as goal

abbrev pub invariant-loop-row : goal.invariant-loop-row
invariant-loop-row l = AllZip (IsCaseBy l.outcomes)
    (take l.row-index (map (λ row. map (λ v. v.now) row) l.rows)) l.cases
