use Rattle.am_cert.specs.Texts.{ReadsAsCertificate, certificate_of}
use Rattle.amurth.proofs.Dues.{answered}
use Rattle.amurth.specs.Translated.{IsTranslated}
use Rattle.amurth.proofs.translating.translated.Goals as goal

pub returns-in-Ok : goal.returns-in-Ok
returns-in-Ok c =
    answered ReadsAsCertificate certificate_of IsTranslated c.args.input.now c.in-Ok.certificate
    (record { short = c.requires; reads = c.in-Ok.ensures.found }) c.restated.result c.restated.ensures
