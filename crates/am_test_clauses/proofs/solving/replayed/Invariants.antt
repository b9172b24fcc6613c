use Rattle.std.proofs.Common.{◌≡◌, ◌+◌, length}
use Rattle.am_chain.specs.Checked.{all_clauses}
use Rattle.am_test_clauses.proofs.solving.replayed.Given as goal

abbrev pub invariant-loop-i : goal.invariant-loop-i
invariant-loop-i l = length (all_clauses l.checker) ≡ length l.formula.clauses + l.i
