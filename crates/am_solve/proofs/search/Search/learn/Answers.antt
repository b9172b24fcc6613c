use Rattle.std.proofs.Common.{◌++◌, arith, length-append}
use Rattle.am_solve.proofs.Searching.{search_learn}
use Rattle.am_solve.proofs.search.Search.learn.Goals as goal

pub returns-clause-searches : goal.returns-clause-searches
returns-clause-searches c =
    let s = c.args.self.now in
    rw (c.in_ok-push.ensures.ok, c.in_ok-push-2.ensures.ok)
    (search_learn c.args.given.now s.learnt s.trail.vars s.log s.watch s.trail c.requires.searches c.args.clause.now
    c.args.chain
    c.add.new.self
    (c.in_ok-add.ensures.ok (c.args.given.now ++ s.learnt) s.trail c.requires.searches.holds
    (omega (arith, c.len.ensures, c.len-2.ensures, length-append c.args.given.now s.learnt))
    c.requires.normal.below)
    c.requires.normal c.requires.derived c.requires.new c.requires.steps c.requires.below)
