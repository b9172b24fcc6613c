use Rattle.am_problem.specs.Texts.{ReadsAsProblem, problem_of}
use Rattle.amurth.proofs.Dues.{answered}
use Rattle.amurth.specs.Listed.{IsListing}
use Rattle.amurth.proofs.listing.listed.Goals as goal

pub returns-in-Ok : goal.returns-in-Ok
returns-in-Ok c =
    answered ReadsAsProblem problem_of IsListing c.args.input.now c.in-Ok.problem
    (record { short = c.requires; reads = c.in-Ok.ensures.found }) c.best_listed.result c.best_listed.ensures
