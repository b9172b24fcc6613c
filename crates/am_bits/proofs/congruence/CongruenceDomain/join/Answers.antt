use Rattle.std.proofs.Common.{arith, ◌<◌, ◌^◌, ap, ◌∙◌, bit_and, bit_xor}
use Rattle.std.proofs.lemmas.Nat.{and_le_l, xor_lt}
use Rattle.am_bits.specs.lemmas.Bits.{without-widths}
use Rattle.am_bits.specs.Congruences.{mask, residue, low, modulo}
use Rattle.am_bits.proofs.congruence.CongruenceDomain.join.Goals as goal

pub returns : goal.returns
returns c =
    let a = c.args.a.now in
    let b = c.args.b.now in
    let w = c.args._w in
    let both = bit_and (mask a) (mask b) in
    let differing = bit_xor (residue a) (residue b) in
    let first = c.requires.first.tuple.words in
    let second = c.requires.second.tuple.words in
    let both_word : both < 2 ^ w = omega (arith, and_le_l (mask a) (mask b), first 0) in
    let both_byte : both < 2 ^ 8 = omega (arith, and_le_l (mask a) (mask b), c.get-3.ensures) in
    let differing_byte =
    xor_lt 8 (residue a) (residue b) (omega (arith, c.get.ensures)) (omega (arith, c.get-2.ensures)) in
    let same = without-widths 8 w both differing both_byte differing_byte both_word
    (xor_lt w (residue a) (residue b) (first 1) (second 1)) in
    c.modulo.ensures
    ∙ rw (c.low.ensures, c.get.ensures, c.get-2.ensures, c.get-3.ensures, c.get-4.ensures, c.get-5.ensures)
    (ap (λ x. modulo (low x) (residue a)) same)
