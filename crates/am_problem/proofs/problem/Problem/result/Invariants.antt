use Rattle.std.proofs.Common.{◌≡◌, map, take}
use Rattle.am_bv.specs.Terms.{val}
use Rattle.am_problem.proofs.problem.Problem.result.Given as goal

abbrev pub invariant-loop-term : goal.invariant-loop-term
invariant-loop-term l = l.fields ≡ map (λ t. val l.self.width t l.inputs) (take l.term-index l.t)
