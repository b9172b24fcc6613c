use Rattle.std.proofs.Common.{◌≡◌, length, ap, arith}
use Rattle.am_slot.proofs.Loops.{length-positioned}
use Rattle.am_slot.proofs.decoding.trees_at.Goals as goal

pub overflow_cast-argument : goal.overflow_cast-argument
overflow_cast-argument c =
    let few = rw c.in-Node.is at c.requires.few in
    let many : length c.as_slice-name-items.result.now ≡ length c.in-Node.names =
    ap length c.as_slice-name-items.ensures in
    omega (arith, few, length-positioned 0 c.in-Node.names, many, c.loop-position-test.true)
