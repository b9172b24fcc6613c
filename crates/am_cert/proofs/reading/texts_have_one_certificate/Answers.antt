use Rattle.am_cert.proofs.TextVerdicts.{one_certificate}
use Rattle.am_cert.proofs.reading.texts_have_one_certificate.Goals as goal

pub returns : goal.returns
returns c = one_certificate
