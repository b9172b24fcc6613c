use Rattle.std.proofs.Common.{arith, ◌<◌, ◌^◌}
use Rattle.std.proofs.lemmas.Bool.{eqb-true, eq-eqb, leb-true, le-leb}
use Rattle.am_bits.specs.lemmas.Masks.{mask_by_next}
use Rattle.am_bits.specs.Congruences.{mask}
use Rattle.am_bits.proofs.congruence.CongruenceDomain.valid.Goals as goal

pub returns-then-mask-eq0 : goal.returns-then-mask-eq0
returns-then-mask-eq0 c =
    let byte : mask c.args.a.now < 2 ^ 8 = omega (arith, c.get-mask.ensures) in
    let masks = mask_by_next 8 c.args._w (mask c.args.a.now) byte (c.requires.words 0) in
    let test = rw c.get-mask.ensures at c.if-mask-eq0.true in
    rw (c.get.ensures, c.get-mask.ensures)
    (λ h. record { masked = masks.0 test; within = leb-true _ _ h }, λ valid. le-leb _ _ valid.within)

pub returns-else-mask-eq0 : goal.returns-else-mask-eq0
returns-else-mask-eq0 c =
    let byte : mask c.args.a.now < 2 ^ 8 = omega (arith, c.get-mask.ensures) in
    let masks = mask_by_next 8 c.args._w (mask c.args.a.now) byte (c.requires.words 0) in (
      λ h. absurd (c.if-mask-eq0.false (eqb-true _ _ h)),
      λ valid. rw c.get-mask.ensures (eq-eqb _ _ (masks.1 valid.masked)),
    )
