use Rattle.am_problem.proofs.kind.KindDomain.contains.Goals as goal

pub returns-in-KnownBits : goal.returns-in-KnownBits
returns-in-KnownBits c = rw c.in-KnownBits.is c.contains-in-KnownBits.ensures
