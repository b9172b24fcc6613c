use Rattle.std.proofs.Common.{drop}
use Rattle.am_chain.proofs.Needing.{LeavesSteps}
use Rattle.am_chain.proofs.trimming.need_named.Given as goal

abbrev pub invariant-loop-step : goal.invariant-loop-step
invariant-loop-step l = LeavesSteps l.given l.fn.needed l.chain l.needed (drop l.step-index l.chain.steps)
