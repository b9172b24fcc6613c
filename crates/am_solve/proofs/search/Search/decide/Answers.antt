use Rattle.am_solve.proofs.Searching.{search_decide}
use Rattle.am_solve.proofs.search.Search.decide.Goals as goal

pub returns-clause-searches : goal.returns-clause-searches
returns-clause-searches c =
    let s = c.args.self.now in
    rw c.decide.ensures
    (search_decide c.args.given.now s.learnt s.trail.vars s.log s.watch s.trail c.requires.searches c.known.ensures
    c.requires.end c.requires.settled c.args.l)
