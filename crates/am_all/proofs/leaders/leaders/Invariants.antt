use Rattle.std.proofs.Common.{map, take}
use Rattle.am_all.specs.inside.Leaders.{AreLeaders, tree_numbers}
use Rattle.am_all.proofs.leaders.leaders.Given as goal

abbrev pub invariant-loop-tuple : goal.invariant-loop-tuple
invariant-loop-tuple l =
    AreLeaders l.cases l.sets (map (tree_numbers l.p l.cases)
    (take l.tuple-index (map (λ tuple. map (λ c. c.now.tree) tuple) l.tuples))) l.leaders.items
