use Rattle.std.proofs.Common.{ap, ◌∙◌, ◌-◌, ◌^◌, ◌≤◌, arith}
use Rattle.std.proofs.Math.Pow.{pow_mono}
use Rattle.std.proofs.lemmas.Nat.Bits.{ones_shr}
use Rattle.am_bv.proofs.width.Width.mask.Goals as goal

pub returns-clause-value : goal.returns-clause-value
returns-clause-value c = ones_shr 8 (8 - c.self.inside.bits) (omega arith) ∙ ap (λ n. 2 ^ n - 1) (omega arith)

pub returns-clause-least : goal.returns-clause-least
returns-clause-least c =
    let bits = c.self.inside.bits in
    let wide : 2 ≤ 8 - (8 - bits) = omega arith in
    omega (arith, ones_shr 8 (8 - bits) (omega arith), pow_mono wide)
