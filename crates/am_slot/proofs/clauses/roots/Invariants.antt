use Rattle.std.proofs.Common.{◌≡◌, map, take}
use Rattle.am_slot.specs.Clauses.{root}
use Rattle.am_slot.proofs.clauses.roots.Given as goal

abbrev pub invariant-loop-symbol : goal.invariant-loop-symbol
invariant-loop-symbol l = l.roots.items ≡ map root (take l.symbol-index l.starts)
