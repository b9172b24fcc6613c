use Rattle.am_cert.proofs.RefusedCertificates.{certificate_refused}
use Rattle.am_cert.proofs.reading.certificate_refusals_are_for_good.Goals as goal

pub returns : goal.returns
returns c = certificate_refused
