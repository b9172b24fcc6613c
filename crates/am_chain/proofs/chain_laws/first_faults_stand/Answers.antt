use Rattle.std.proofs.Common.{[], ◌≡◌, length, arith}
use Rattle.am_chain.proofs.Replaying.{length-replay, replay_fault}
use Rattle.am_chain.proofs.chain_laws.first_faults_stand.Goals as goal

pub returns : goal.returns
returns c = λ clauses derived before after chain f e h.
    let same : length derived ≡ length before = omega (arith, length-replay clauses [] derived before e) in
    rw (← same) (replay_fault clauses [] derived before after chain f e h)
