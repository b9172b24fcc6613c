use Rattle.am_solve.proofs.Searching.{at_width, search_extends}
use Rattle.am_solve.proofs.search.Search.propagate.Goals as goal

pub returns-clause-searches : goal.returns-clause-searches
returns-clause-searches c =
    let s = c.args.self.now in
    at_width c.args.formula.now.clauses s.learnt s.trail.vars c.propagate.new.trail.vars s.log c.propagate.new.self
    c.propagate.new.trail c.propagate.ensures.extends.vars
    (search_extends c.args.formula.now.clauses s.learnt s.trail.vars s.log s.watch s.trail c.requires.searches
    c.propagate.new.self c.propagate.new.trail c.propagate.ensures.extends c.in_ok-answer.ensures.holds)
