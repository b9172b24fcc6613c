-- Each domain that a problem names keeps all laws of a domain.
use Rattle.std.proofs.Common.{lit≤}
use Rattle.am_bits.specs.lemmas.CongruenceLaws.{congruence_laws}
use Rattle.am_bits.specs.lemmas.KnownLaws.{known_laws}
use Rattle.am_bits.specs.lemmas.ParityLaws.{parity_laws}
use Rattle.am_domain.specs.Laws.{KeepsLaws}
use Rattle.am_interval.specs.lemmas.Domains.{signed_laws, unsigned_laws, unsigned_walks}
use Rattle.am_pair.specs.lemmas.PairLaws.{product_laws}
use Rattle.am_pair.specs.lemmas.Parts.{paired}
use Rattle.am_wrap.specs.lemmas.WrappedLaws.{wrapped_laws, wrapped_walks}
use Rattle.am_problem.specs.declared.kind.Kind.{Kind}
use Rattle.am_problem.specs.declared.kind.Kind.TheVariants.{UInterval, SInterval, KnownBits}
use Rattle.am_problem.specs.declared.kind.Kind.TheVariants.{Parity, Congruence, WInterval}
use Rattle.am_problem.specs.declared.kind.Kind.TheVariants.{UIntervalKnown, UIntervalCongruence, WIntervalCongruence}
use Rattle.am_problem.specs.Kinds.{abstraction_of}

-- each kind of domain keeps them
pub laws_of : (kind : Kind) → KeepsLaws (abstraction_of kind)
laws_of UInterval = unsigned_laws
laws_of SInterval = signed_laws
laws_of KnownBits = known_laws
laws_of Parity = parity_laws
laws_of Congruence = congruence_laws
laws_of WInterval = wrapped_laws
laws_of UIntervalKnown = product_laws (paired unsigned_walks unsigned_laws known_laws (lit≤ tt))
laws_of UIntervalCongruence = product_laws (paired unsigned_walks unsigned_laws congruence_laws (lit≤ tt))
laws_of WIntervalCongruence = product_laws (paired wrapped_walks wrapped_laws congruence_laws (lit≤ tt))
