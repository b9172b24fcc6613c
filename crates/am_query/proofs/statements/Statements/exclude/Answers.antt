use Rattle.am_query.proofs.Calls.{GivesStep-refused}
use Rattle.am_query.proofs.statements.Statements.exclude.Goals as goal

pub returns : goal.returns
returns c =
    GivesStep-refused c.in_ok-l.ensures (rw c.opposite.ensures at c.in_ok-force.ensures.ok) c.in_ok-force.ensures.grows
