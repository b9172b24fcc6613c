use Rattle.std.proofs.Common.{◌≡◌, take}
use Rattle.am_hint.proofs.translation.codes_of.Given as goal

abbrev pub invariant-loop-l : goal.invariant-loop-l
invariant-loop-l l = l.codes ≡ take l.l-index l.clause
