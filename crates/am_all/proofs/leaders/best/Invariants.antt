use Rattle.std.proofs.Common.{map, take}
use Rattle.am_all.specs.AllBest.{GivesBest, KeepsWhere}
use Rattle.am_all.proofs.leaders.best.Given as goal

abbrev pub invariant-loop-tuple : goal.invariant-loop-tuple
invariant-loop-tuple l = KeepsWhere (GivesBest l.p)
    (take l.tuple-index (map (λ tuple. map (λ c. c.now.tree) tuple) l.tuples)) l.best
