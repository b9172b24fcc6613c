use Rattle.std.proofs.Common.{◌≡◌, All, length}
use Rattle.am_test_clauses.proofs.chains.log_of.Given as goal

abbrev pub invariant-loop-first : goal.invariant-loop-first
invariant-loop-first l = (length l.log ≡ l.first-index) × All (λ chain. length chain.steps ≡ 1) l.log
