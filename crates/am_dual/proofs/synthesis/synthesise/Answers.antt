use Rattle.am_dual.proofs.Ending.{turns_suffice}
use Rattle.am_dual.proofs.synthesis.synthesise.Goals as goal

pub returns-clause-turns : goal.returns-clause-turns
returns-clause-turns c = turns_suffice c.args.p.now c.in_ok-outcome.outcome c.in_ok-outcome.ensures.end.right
