use Rattle.am_chain.proofs.Marking.{unmarked_past}
use Rattle.am_chain.proofs.marks.Marks.only_literal.Goals as goal

pub returns-then-variable : goal.returns-then-variable
returns-then-variable c = λ l e t.
    absurd
    (unmarked_past c.self.inside.marks.items c.args.variable l c.self.invariant.0 c.if-variable.true e
    (rw (← c.self.view_is) at t))
