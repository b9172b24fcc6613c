use Rattle.am_solve.proofs.Searching.{search_start}
use Rattle.am_solve.proofs.search.Search.new.Goals as goal

pub returns-clause-searches : goal.returns-clause-searches
returns-clause-searches c =
    let f = c.args.formula.now in
    rw (c.in_ok-new-2.ensures, c.new.ensures, c.new-2.ensures)
    (search_start f.clauses f.vars c.in_ok-new.field-0 c.in_ok-new.ensures f.normal)
