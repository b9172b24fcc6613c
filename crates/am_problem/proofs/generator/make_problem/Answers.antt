use Rattle.am_problem.specs.Limits.{IsProblem}
use Rattle.am_problem.specs.Stored.{seen_parts}
use Rattle.am_problem.proofs.GeneratorLaws.{made-problem, made-sound}
use Rattle.am_problem.proofs.generator.make_problem.Goals as goal

pub load-requires-clause-formed : goal.load-requires-clause-formed
load-requires-clause-formed c = rw c.in_ok-parts.ensures (made-problem c.args.n).formed

pub load-requires-clause-slots : goal.load-requires-clause-slots
load-requires-clause-slots c =
    let within : IsProblem (seen_parts c.in_ok-parts.parts) = rw c.in_ok-parts.ensures (made-problem c.args.n) in
    within.slots

pub invariant_of-result : goal.invariant_of-result
invariant_of-result c = record {
  within = rw c.in_ok-parts.ensures (made-problem c.args.n);
  noted = c.in_ok-load.ensures;
}

pub returns-clause-solvable : goal.returns-clause-solvable
returns-clause-solvable c = rw c.in_ok-parts.ensures (made-sound c.args.n)
