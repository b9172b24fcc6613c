use Rattle.std.proofs.Common.{false}
use Rattle.am_query.proofs.Loads.{formulas_keep_the_load}
use Rattle.am_query.proofs.formulas.formula_one_of.Goals as goal

pub returns-clause-gates : goal.returns-clause-gates
returns-clause-gates c =
    rw c.in_ok-stated.ensures.vars
    (formulas_keep_the_load false c.args.p.now c.keeps_limits.ensures c.args.q.now c.requires)
