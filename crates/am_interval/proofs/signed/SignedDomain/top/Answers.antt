use Rattle.std.proofs.Common.{◌-◌, arith}
use Rattle.std.proofs.lemmas.Nat.{pow_pos}
use Rattle.am_bv.proofs.Laws.{IsWidth-mask}
use Rattle.am_interval.specs.lemmas.Numbers.{halved}
use Rattle.am_interval.proofs.signed.SignedDomain.top.Goals as goal

pub returns : goal.returns
returns c =
    let mask = c.mask-last.ensures in
    let width = IsWidth-mask c.args.w c.mask-last.result mask.value mask.least (omega arith) in
    grind (arith, c.pair.ensures, mask.value, halved c.args.w width.0, pow_pos (c.args.w - 1))
