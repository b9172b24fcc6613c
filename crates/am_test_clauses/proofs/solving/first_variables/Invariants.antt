use Rattle.std.proofs.Common.{◌≡◌, ◌<◌, ℕ, length, get_or}
use Rattle.am_test_clauses.proofs.solving.first_variables.Given as goal

abbrev pub invariant-loop-v : goal.invariant-loop-v
invariant-loop-v l = record {
  len : length l.variables.items ≡ l.v;
  each : (k d : ℕ) → k < l.v → get_or l.variables.items k d ≡ k;
}
