use Rattle.am_blast.proofs.Giving.{GivesStep-flagged}
use Rattle.am_blast.proofs.relation.flagged.Goals as goal

pub returns-clause-ok : goal.returns-clause-ok
returns-clause-ok c = rw c.in_ok-word.ensures (GivesStep-flagged _ c.requires.bits c.in_ok-holds.ensures.ok)
