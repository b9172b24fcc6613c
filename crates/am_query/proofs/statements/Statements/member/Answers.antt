use Rattle.am_problem.specs.lemmas.KindLaws.{laws_of}
use Rattle.am_query.proofs.Membership.{member-nodes}
use Rattle.am_query.proofs.statements.Statements.member.Goals as goal

pub returns-clause-fit : goal.returns-clause-fit
returns-clause-fit c =
    let p = c.self.inside.problem.now in
    rw (← c.self.view_is, c.self.invariant.0)
    ((laws_of p.kind).tells_membership p.width c.keeps_limits.ensures.formed.width).fit

pub returns-clause-nodes : goal.returns-clause-nodes
returns-clause-nodes c = rw c.self.invariant.0 (member-nodes c.self.inside.problem.now c.keeps_limits.ensures.formed)
