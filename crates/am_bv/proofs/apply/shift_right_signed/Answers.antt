use Rattle.std.proofs.Common.{arith}
use Rattle.std.proofs.lemmas.Nat.{or_lt}
use Rattle.am_bv.proofs.Words.{IsWidth-mask}
use Rattle.am_bv.proofs.Shifts.{ashr_of-filled}
use Rattle.am_bv.proofs.apply.shift_right_signed.Goals as goal

pub returns-then-a-mask-clause-value : goal.returns-then-a-mask-clause-value
returns-then-a-mask-clause-value c =
    let mask = c.mask-mask.ensures in
    let width = IsWidth-mask c.args.w c.mask-mask.result mask.value mask.least (omega arith) in
    rw (c.complement.ensures.value, c.shift_right.ensures.value, c.shift_right-shifted.ensures.value, mask.value)
    (ashr_of-filled c.args.w c.args.a c.args.by width.0 (rw mask.value at c.if-a-mask.true) c.requires)

pub returns-then-a-mask-clause-word : goal.returns-then-a-mask-clause-word
returns-then-a-mask-clause-word c = or_lt _ _ _ c.shift_right-shifted.ensures.word c.complement.ensures.word
