use Rattle.am_flow.specs.Stored.{seen_operations}
use Rattle.am_flow.specs.inside.Ranks.{IsReachedState, state_rank}
use Rattle.am_flow.proofs.analysis.analyse.Given as goal

abbrev pub decreases-rounds : goal.decreases-rounds
decreases-rounds l = state_rank l.flow l.state.items

abbrev pub invariant-rounds : goal.invariant-rounds
invariant-rounds l = IsReachedState l.flow (seen_operations l.operations) l.state.items
