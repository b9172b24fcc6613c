use Rattle.std.proofs.Common.{arith, ◌-◌, ap, ◌∙◌, sym}
use Rattle.std.proofs.lemmas.Nat.{one_shl}
use Rattle.std.specs.Int.{trailing_ones, bit_not, w8}
use Rattle.std.specs.Int.Count.{trailing_le}
use Rattle.am_bits.specs.lemmas.Masks.{low-trailing_ones}
use Rattle.am_bits.proofs.congruence.low.Goals as goal

pub returns : goal.returns
returns c =
    let j = trailing_ones w8 c.args.x in
    rw c.trailing_ones.ensures
    (ap (λ n. n - 1) (one_shl j 16 (omega (arith, trailing_le 8 (bit_not w8 c.args.x))))
    ∙ sym (low-trailing_ones c.args.x (omega (arith, c.ranges.x))))
