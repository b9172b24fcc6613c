use Rattle.std.proofs.Common.{ℕ, ◌<◌, [], get_or}
use Rattle.std.specs.Prelude.{IsTrue}
use Rattle.am_lit.specs.Truth.{clause_value, value_at}
use Rattle.am_solve.proofs.quick.satisfies.Given as goal

abbrev pub invariant-loop-i : goal.invariant-loop-i
invariant-loop-i l = (k : ℕ) → k < l.i → IsTrue (clause_value (value_at l.assignment.values) (get_or l.clauses k []))
