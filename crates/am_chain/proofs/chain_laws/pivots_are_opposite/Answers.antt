use Rattle.am_chain.proofs.Resolvents.{has_pivot_iff}
use Rattle.am_chain.proofs.chain_laws.pivots_are_opposite.Goals as goal

pub returns : goal.returns
returns c = has_pivot_iff
