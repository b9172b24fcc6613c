use Rattle.std.specs.Prelude.{All}
use Rattle.am_problem.specs.Examples.{IsPositive}
use Rattle.am_test_queries.proofs.asked.positives.Given as goal

abbrev pub invariant-loop-word : goal.invariant-loop-word
invariant-loop-word g l = All (IsPositive l.fn.p) l.positives
