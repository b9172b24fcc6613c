use Rattle.std.proofs.Common.{All, take}
use Rattle.am_cert.specs.inside.Translations.{HasSmallNumbers}
use Rattle.am_cert.proofs.translating.have_small_numbers.Given as goal

abbrev pub invariant-hints : goal.invariant-hints
invariant-hints l = All HasSmallNumbers (take l.i l.hints)
