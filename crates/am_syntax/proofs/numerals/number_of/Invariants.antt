use Rattle.std.proofs.Common.{◌≡◌, take}
use Rattle.am_syntax.specs.Numerals.{number_of}
use Rattle.am_syntax.proofs.numerals.number_of.Given as goal

abbrev pub invariant-loop-b : goal.invariant-loop-b
invariant-loop-b l = l.n ≡ number_of (take l.b-index l.word)
