use Rattle.amurth.proofs.Syntheses.{synthesis_writable}
use Rattle.amurth.proofs.synthesising.certificate_text.Goals as goal

pub new-certificate-requires-clause-writable : goal.new-certificate-requires-clause-writable
new-certificate-requires-clause-writable c = synthesis_writable c.args.problem c.args.outcome c.requires
