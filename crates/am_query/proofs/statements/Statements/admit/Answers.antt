use Rattle.am_query.proofs.Calls.{GivesStep-forced}
use Rattle.am_query.proofs.statements.Statements.admit.Goals as goal

pub returns : goal.returns
returns c = GivesStep-forced c.in_ok-l.ensures c.in_ok-force.ensures.ok c.in_ok-force.ensures.grows
