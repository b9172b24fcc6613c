use Rattle.std.proofs.Common.{◌≡◌, map, take}
use Rattle.amurth.specs.Analysed.{signature}
use Rattle.amurth.proofs.analysing.signatures.Given as goal

abbrev pub invariant-certificates : goal.invariant-certificates
invariant-certificates l = l.signatures.items ≡ map signature (take l.certificate-index l.certificates)
