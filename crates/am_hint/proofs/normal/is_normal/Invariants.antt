use Rattle.std.proofs.Common.{◌≡◌, drop}
use Rattle.am_hint.specs.Hints.{is_normal, variables_increase}
use Rattle.am_hint.proofs.normal.is_normal.Given as goal

abbrev pub invariant-loop-code : goal.invariant-loop-code
invariant-loop-code l = variables_increase l.least l.vars (drop l.code-index l.codes) ≡ is_normal l.vars l.codes
