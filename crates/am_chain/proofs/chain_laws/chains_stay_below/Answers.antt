use Rattle.am_chain.proofs.Ordered.{chain_below}
use Rattle.am_chain.proofs.chain_laws.chains_stay_below.Goals as goal

pub returns : goal.returns
returns c = λ vars clauses chain clause ordered. chain_below vars clauses ordered chain clause
