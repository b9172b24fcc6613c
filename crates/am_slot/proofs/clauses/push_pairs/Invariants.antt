use Rattle.std.proofs.Common.{◌≡◌, ◌++◌, drop}
use Rattle.am_slot.specs.Clauses.{pairs}
use Rattle.am_slot.proofs.clauses.push_pairs.Given as goal

abbrev pub invariant-loop-i : goal.invariant-loop-i
invariant-loop-i l = l.clauses ++ pairs (drop l.i l.literals) ≡ l.initial.clauses ++ pairs l.literals
