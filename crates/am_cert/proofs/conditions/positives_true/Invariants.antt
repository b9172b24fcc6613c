use Rattle.std.proofs.Common.{take}
use Rattle.std.specs.List.{All}
use Rattle.am_domain.specs.Examples.{IsTrueExample}
use Rattle.am_problem.specs.Examples.{positive_of}
use Rattle.am_problem.specs.Problem.{question_of}
use Rattle.am_cert.proofs.conditions.positives_true.Given as goal

abbrev pub invariant-loop-i : goal.invariant-loop-i
invariant-loop-i l = All (λ e. IsTrueExample (question_of l.p) (positive_of l.p e)) (take l.i l.positives)
