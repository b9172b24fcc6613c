use Rattle.am_solve.proofs.Searching.{search_back}
use Rattle.am_solve.proofs.search.Search.back_to.Goals as goal

pub returns-clause-searches : goal.returns-clause-searches
returns-clause-searches c =
    let s = c.args.self.now in
    rw c.back_to.ensures
    (search_back c.args.given.now s.learnt s.trail.vars s.log s.watch s.trail c.requires.searches c.known.ensures
    c.args.level c.requires.level)
