use Rattle.am_blast.proofs.Giving.{GivesStep-choice}
use Rattle.am_blast.proofs.relation.chosen.Goals as goal

pub returns-clause-ok : goal.returns-clause-ok
returns-clause-ok c = GivesStep-choice _ _ c.in_ok-holds.ensures.ok c.in_ok-word.ensures.ok
