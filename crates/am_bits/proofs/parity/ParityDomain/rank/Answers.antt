use Rattle.std.proofs.Common.{arith}
use Rattle.std.proofs.lemmas.Nat.{ones-le}
use Rattle.am_bits.proofs.parity.ParityDomain.rank.Goals as goal

pub overflow_sub-result : goal.overflow_sub-result
overflow_sub-result c = ones-le 2 _ (omega (arith, c.requires.valid.1, c.get.ensures))
