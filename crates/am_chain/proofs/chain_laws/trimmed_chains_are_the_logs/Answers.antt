use Rattle.am_chain.specs.Trimmed.{moved_number}
use Rattle.am_chain.proofs.KeptChains.{kept_are}
use Rattle.am_chain.proofs.chain_laws.trimmed_chains_are_the_logs.Goals as goal

pub returns : goal.returns
returns c = λ given log kept t. rw t.chains (kept_are (moved_number given t.keeps) t.keeps 0 log)
