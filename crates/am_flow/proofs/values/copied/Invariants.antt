use Rattle.std.proofs.Common.{◌≡◌, take}
use Rattle.am_flow.proofs.values.copied.Given as goal

abbrev pub invariant-copies : goal.invariant-copies
invariant-copies l = l.copies.items ≡ take l.value-index l.values
