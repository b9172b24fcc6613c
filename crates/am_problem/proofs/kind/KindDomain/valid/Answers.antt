use Rattle.am_problem.proofs.kind.KindDomain.valid.Goals as goal

pub returns-in-Congruence : goal.returns-in-Congruence
returns-in-Congruence c = rw c.in-Congruence.is c.valid-in-Congruence.ensures
