use Rattle.std.proofs.Common.{◌≡◌, ◌++◌, drop, map}
use Rattle.am_chain.specs.Trimmed.{moved_step}
use Rattle.am_chain.specs.inside.Numbers.{renumbered}
use Rattle.am_chain.proofs.trimming.renumbered_chain.Given as goal

abbrev pub invariant-loop-step : goal.invariant-loop-step
invariant-loop-step l =
    l.steps ++ map (moved_step (renumbered l.given l.before)) (drop l.step-index l.chain.steps)
    ≡ map (moved_step (renumbered l.given l.before)) l.chain.steps
