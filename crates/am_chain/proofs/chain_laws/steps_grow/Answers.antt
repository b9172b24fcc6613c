use Rattle.am_chain.proofs.Replaying.{after_steps-push}
use Rattle.am_chain.proofs.chain_laws.steps_grow.Goals as goal

pub returns : goal.returns
returns c = after_steps-push
