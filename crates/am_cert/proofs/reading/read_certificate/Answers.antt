use Rattle.am_cert.proofs.CertificateLaws.{first_by, found_by, only_by}
use Rattle.am_cert.proofs.reading.read_certificate.Goals as goal

pub returns-clause-found : goal.returns-clause-found
returns-clause-found c = found_by c.args.text.now c.read_all.result c.requires c.read_all.ensures

pub returns-clause-only : goal.returns-clause-only
returns-clause-only c = only_by c.args.text.now c.read_all.result c.read_all.ensures

pub returns-clause-first : goal.returns-clause-first
returns-clause-first c = first_by c.args.text.now c.read_all.result c.read_all.ensures
