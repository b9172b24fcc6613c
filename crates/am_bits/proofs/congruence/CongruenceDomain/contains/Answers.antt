use Rattle.am_bits.specs.lemmas.Bits.{same_bits}
use Rattle.am_bits.specs.lemmas.Terms.{equals, iff-trans}
use Rattle.am_bits.proofs.congruence.CongruenceDomain.contains.Goals as goal

pub returns : goal.returns
returns c = rw (c.get.ensures, c.get-2.ensures) (iff-trans (equals _ _) (same_bits _ _ _))
