use Rattle.am_cert.proofs.CertificateLaws.{all_texts_settled}
use Rattle.am_cert.proofs.reading.certificate_texts_are_settled.Goals as goal

pub returns : goal.returns
returns c = all_texts_settled
