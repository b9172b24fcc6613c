use Rattle.std.proofs.Common.{◌≡◌, map, take}
use Rattle.std.specs.Prelude.{All}
use Rattle.am_cert.specs.Certificate.{IsCertificate}
use Rattle.am_flow.specs.Stored.{seen_operations}
use Rattle.amurth.specs.Analysed.{operation}
use Rattle.amurth.proofs.analysing.operations.Given as goal

abbrev pub invariant-certificates : goal.invariant-certificates
invariant-certificates l = record {
  value : seen_operations l.operations.items ≡ map operation (take l.certificate-index l.certificates);
  limits : All IsCertificate (take l.certificate-index l.certificates);
}
