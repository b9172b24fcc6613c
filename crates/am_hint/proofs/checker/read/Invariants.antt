use Rattle.std.proofs.Common.{◌≡◌, take}
use Rattle.am_hint.proofs.checker.read.Given as goal

abbrev pub invariant-loop-code : goal.invariant-loop-code
invariant-loop-code l = l.clause.items ≡ take l.code-index l.codes
