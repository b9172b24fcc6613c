use Rattle.std.proofs.Common.{◌≡◌, take}
use Rattle.am_flow.proofs.entry.are_same.Given as goal

abbrev pub invariant-entries : goal.invariant-entries
invariant-entries l = take l.i l.entries ≡ take l.i l.others
