use Rattle.am_cert.proofs.TextVerdicts.{accepted_texts_pass}
use Rattle.am_cert.proofs.feed.accepted_texts_pass.Goals as goal

pub returns : goal.returns
returns c = accepted_texts_pass
