use Rattle.std.specs.Prelude.{All}
use Rattle.am_problem.specs.Examples.{IsNegative}
use Rattle.am_test_queries.proofs.asked.negatives.Given as goal

abbrev pub invariant-loop-word : goal.invariant-loop-word
invariant-loop-word g l = All (IsNegative l.fn.p) l.negatives
