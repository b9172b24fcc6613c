use Rattle.am_problem.specs.Texts.{ReadsAsProblem, problem_of}
use Rattle.amurth.proofs.Dues.{answered}
use Rattle.amurth.specs.Synthesised.{IsCertified}
use Rattle.amurth.proofs.synthesising.synthesised.Goals as goal

pub returns-in-Ok : goal.returns-in-Ok
returns-in-Ok c =
    answered ReadsAsProblem problem_of IsCertified c.args.input.now c.in-Ok.problem
    (record { short = c.requires; reads = c.in-Ok.ensures.found }) c.certified.result c.certified.ensures
