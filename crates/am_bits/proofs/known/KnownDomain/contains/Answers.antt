use Rattle.std.proofs.Common.{bit_and, ◌≡◌, ap, sym, ◌∙◌}
use Rattle.std.proofs.lemmas.Bool.{eqb-true, eq-eqb}
use Rattle.am_bits.specs.lemmas.KnownLaws.{known_by_tests}
use Rattle.am_bits.specs.KnownBits.{known_zeros}
use Rattle.am_bits.proofs.known.KnownDomain.contains.Goals as goal

pub returns-then-c-get-eq0 : goal.returns-then-c-get-eq0
returns-then-c-get-eq0 c =
    let tests = known_by_tests c.args.a.now c.args.c in
    let clear : bit_and c.args.c (known_zeros c.args.a.now) ≡ 0 =
    ap (bit_and c.args.c) (sym c.get.ensures) ∙ c.if-c-get-eq0.true in
    rw c.get-ones.ensures (λ h. tests.0 (clear, eqb-true _ _ h), λ h. eq-eqb _ _ (tests.1 h).1)

pub returns-else-c-get-eq0 : goal.returns-else-c-get-eq0
returns-else-c-get-eq0 c =
    let tests = known_by_tests c.args.a.now c.args.c in (
      λ h. absurd (c.if-c-get-eq0.false (eqb-true _ _ h)),
      λ h. eq-eqb _ _ (ap (bit_and c.args.c) c.get.ensures ∙ (tests.1 h).0),
    )
