use Rattle.std.proofs.Common.{◌≡◌, [], flat_map, get_or, take}
use Rattle.am_flow.proofs.step.inputs_at.Given as goal

abbrev pub invariant-variables : goal.invariant-variables
invariant-variables l = l.inputs ≡ flat_map (λ b. get_or l.row b []) (take l.variable-index l.from)
