use Rattle.std.proofs.Common.{◌*◌, ◌^◌, ◌≤◌, arith}
use Rattle.am_bv.proofs.Words.{truncated}
use Rattle.am_bv.proofs.apply.shift_left.Goals as goal

pub returns-then-from-bits-clause-value : goal.returns-then-from-bits-clause-value
returns-then-from-bits-clause-value c =
    let most : c.args.w ≤ 8 = omega (arith, c.bits.ensures.value, c.bits.ensures.width.1) in
    let e = truncated c.args.w (c.args.a * 2 ^ c.args.by) most in
    grind (arith, e, c.truncate.ensures.value, c.bits.ensures.value, c.from.ensures)
