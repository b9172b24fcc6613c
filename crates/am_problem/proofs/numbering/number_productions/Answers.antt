use Rattle.am_problem.specs.StoredLines.{seen_production}
use Rattle.am_problem.specs.inside.Names.{IsProductionOver, names_in}
use Rattle.am_problem.proofs.Lists.{made_holds}
use Rattle.am_problem.proofs.numbering.number_productions.Goals as goal

pub number_production-requires-clause-known : goal.number_production-requires-clause-known
number_production-requires-clause-known c =
    made_holds (IsProductionOver (names_in c.args.names.now)) seen_production c.args.productions.now
    c.loop-production.production-index _ c.production-item.result c.requires.known c.loop-production-test.true
    c.production-item.is
