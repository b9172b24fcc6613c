use Rattle.am_bits.specs.lemmas.Bits.{disjoint_bits}
use Rattle.am_bits.specs.lemmas.Terms.{equals, iff-trans}
use Rattle.am_bits.proofs.known.KnownDomain.valid.Goals as goal

pub returns : goal.returns
returns c = rw (c.get.ensures, c.get-2.ensures) (iff-trans (equals _ _) (disjoint_bits _ _))
