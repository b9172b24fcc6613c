use Rattle.am_chain.proofs.Merging.{IsStrictlyIncreasing-resolvent}
use Rattle.am_chain.proofs.Resolvents.{from_resolvent, into_resolvent}
use Rattle.am_chain.proofs.chain_laws.resolvents_have_the_others.Goals as goal

pub returns : goal.returns
returns c = λ v d e.
    (IsStrictlyIncreasing-resolvent v d e, (λ l. (from_resolvent v d e l, (λ h. into_resolvent v d e l h.0 h.1))))
