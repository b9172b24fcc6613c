use Rattle.std.proofs.Common.{◌≡◌, length}
use Rattle.am_test_clauses.proofs.chains.formula_of.Given as goal

abbrev pub invariant-loop-l : goal.invariant-loop-l
invariant-loop-l l = length l.clauses ≡ l.l-index
