use Rattle.std.proofs.Common.{ℕ, ◌<◌, ◌≤◌, length, get_or}
use Rattle.am_chain.specs.declared.chain.Chain.{Chain}
use Rattle.am_solve.proofs.quick.are_short.Given as goal

abbrev pub invariant-loop-k : goal.invariant-loop-k
invariant-loop-k l = (d : Chain) (i : ℕ) → i < l.k → length (get_or l.log i d).steps ≤ l.vars
