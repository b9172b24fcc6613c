use Rattle.am_solve.proofs.Learning.{keeps_back}
use Rattle.am_solve.proofs.search.Search.restart.Goals as goal

pub returns-then-conflicts-eq0-clause-keeps : goal.returns-then-conflicts-eq0-clause-keeps
returns-then-conflicts-eq0-clause-keeps c = λ base k.
    rw (c.back_to.ensures.learnt, c.back_to.ensures.trail)
    (keeps_back base c.args.self.now.learnt c.args.self.now.trail.entries 0 k)
