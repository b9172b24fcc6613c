use Rattle.std.proofs.Common.{◌≡◌}
use Rattle.std.specs.Prelude.{Some, None}
use Rattle.am_query.proofs.Calls.{GivesStep-forced, States-nothing}
use Rattle.am_query.proofs.statements.Statements.assumed.Goals as goal

pub returns-in_ok-force : goal.returns-in_ok-force
returns-in_ok-force c =
    let some : c.args.self.now.assume ≡ Some c.in-Some.term.now = rw c.self.view_is at c.in-Some.ensures in
    rw some
    (GivesStep-forced (rw c.width.ensures at c.in_ok-l.ensures) c.in_ok-force.ensures.ok c.in_ok-force.ensures.grows)

pub returns-in_default : goal.returns-in_default
returns-in_default c =
    let none : c.args.self.now.assume ≡ None = rw c.self.view_is at c.in_default.ensures in
    rw none (States-nothing _ c.args.circuit.now)
