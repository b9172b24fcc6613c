use Rattle.std.proofs.Common.{arith}
use Rattle.am_slot.proofs.Standing.{some-name, past-names}
use Rattle.am_slot.proofs.clauses.has_argument.Goals as goal

pub returns-in-Some : goal.returns-in-Some
returns-in-Some c =
    let found = rw c.as_slice.ensures at c.in-Some.ensures.lookup in
    rw c.in-Node.is
    (some-name c.args.argument 0 c.args.argument.position c.in-Node.names c.in-Some.name.now (omega arith)
    found.3.0 found.1)

pub returns-in-None : goal.returns-in-None
returns-in-None c =
    let past = rw c.as_slice.ensures at c.in-None.ensures.lookup in
    rw c.in-Node.is (past-names c.args.argument 0 c.args.argument.position c.in-Node.names (omega arith) past.3)
