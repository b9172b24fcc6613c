use Rattle.std.proofs.Common.{◌≡◌, replicate}
use Rattle.am_flow.proofs.values.repeated.Given as goal

abbrev pub invariant-copies : goal.invariant-copies
invariant-copies l = l.copies.items ≡ replicate l.counter l.value
