use Rattle.std.proofs.Common.{take}
use Rattle.std.specs.Prelude.{All}
use Rattle.amurth.specs.Checked.{IsProved}
use Rattle.amurth.proofs.analysing.check_all.Given as goal

abbrev pub invariant-certificates : goal.invariant-certificates
invariant-certificates l = All IsProved (take l.i l.certificates)
