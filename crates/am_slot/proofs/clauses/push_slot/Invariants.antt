use Rattle.std.proofs.Common.{◌≡◌, ◌++◌, map, take}
use Rattle.am_slot.proofs.clauses.push_slot.Given as goal

abbrev pub invariant-loop-i : goal.invariant-loop-i
invariant-loop-i l = l.clauses ≡ l.initial.clauses ++ map (λ a. a ++ l.own) (take l.i l.by)
