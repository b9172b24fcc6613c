use Rattle.std.proofs.Common.{◌≡◌, drop}
use Rattle.am_query.specs.Turns.{after_trace, after_turns}
use Rattle.am_query.proofs.state.State.after.Given as goal

abbrev pub invariant-loop-turn : goal.invariant-loop-turn
invariant-loop-turn l = after_turns l.state (drop l.turn-index l.trace) ≡ after_trace l.trace
