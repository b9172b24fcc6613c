use Rattle.std.proofs.Common.{◌≡◌, take}
use Rattle.am_flow.proofs.entry.copied.Given as goal

abbrev pub invariant-copies : goal.invariant-copies
invariant-copies l = l.copies.items ≡ take l.entry-index l.entries
