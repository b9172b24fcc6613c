use Rattle.std.proofs.Common.{arith}
use Rattle.am_solve.proofs.Starting.{last_absent}
use Rattle.am_solve.proofs.analysis.absent_literal.Goals as goal

pub returns : goal.returns
returns c = λ k h m there.
    let t = c.args.trail.now in
    last_absent t c.known.ensures k c.literal.result _ h 0 (omega arith) c.literal.ensures
    (omega (arith, c.len-2.ensures)) m there
