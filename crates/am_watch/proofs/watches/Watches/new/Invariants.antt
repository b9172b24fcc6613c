use Rattle.std.proofs.Common.{take}
use Rattle.am_watch.specs.Watching.{KeepsWatches, empty_trail}
use Rattle.am_watch.proofs.watches.Watches.new.Given as goal

abbrev pub invariant-loop-i : goal.invariant-loop-i
invariant-loop-i l = KeepsWatches l.watch.lists l.watch.pairs.items l.watch.fresh.items (take l.i l.formula.clauses)
    (empty_trail l.formula.vars)
