use Rattle.std.proofs.Common.{◌≡◌, arith, length}
use Rattle.am_solve.proofs.Ready.{ready_start}
use Rattle.am_solve.proofs.choice.Choice.new.Goals as goal

pub returns : goal.returns
returns c =
    let long : length c.in_ok-vec.field-0.items ≡ c.args.vars = omega (arith, c.in_ok-vec.ensures.len) in
    rw c.in_ok-new.ensures (ready_start c.args.vars c.in_ok-vec.field-0.items long)
