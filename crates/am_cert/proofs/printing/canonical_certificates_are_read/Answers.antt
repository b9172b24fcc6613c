use Rattle.am_cert.proofs.PrintedWords.{printed_certificates_read}
use Rattle.am_cert.proofs.printing.canonical_certificates_are_read.Goals as goal

pub returns : goal.returns
returns c = printed_certificates_read
