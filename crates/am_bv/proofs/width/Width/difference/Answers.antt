use Rattle.std.proofs.Common.{◌+◌, ◌-◌, ◌%◌, ◌^◌, arith}
use Rattle.std.proofs.Math.Nat.{mod-lt}
use Rattle.std.proofs.lemmas.Nat.{and_mask, pow_pos}
use Rattle.am_bv.proofs.Words.{truncated-difference, IsWidth-mask}
use Rattle.am_bv.proofs.width.Width.difference.Goals as goal

pub returns : goal.returns
returns c =
    let w = c.args.self in
    let n = (c.args.c + (2 ^ 8 - c.args.d)) % 2 ^ 8 in
    let mask = c.mask.ensures in
    let width = IsWidth-mask w c.mask.result mask.value mask.least (omega arith) in
    let e = truncated-difference w c.args.c c.args.d width.1 c.requires in
    rw (mask.value, and_mask n w) (record { value = e; word = mod-lt n (pow_pos w) })
