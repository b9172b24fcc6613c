use Rattle.std.proofs.Common.{◌≡◌, take}
use Rattle.am_flow.proofs.values.are_equal.Given as goal

abbrev pub invariant-values : goal.invariant-values
invariant-values l = take l.i l.values ≡ take l.i l.others
