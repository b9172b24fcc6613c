use Rattle.std.proofs.Common.{arith}
use Rattle.am_trail.proofs.Valuing.{true_values}
use Rattle.am_trail.proofs.values.set_true.Goals as goal

pub returns-clause-values : goal.returns-clause-values
returns-clause-values c = λ row h. rw (c.code-2.ensures, c.opposite.ensures, c.code.ensures)
    (true_values row c.args.values.now.items c.args.l (omega (arith, c.args.values.now.ok.0)) h)
