use Rattle.std.proofs.Common.{◌≡◌, Err, inr, subst}
use Rattle.am_cert.specs.Texts.{ReadsAsCertificate, certificate_of}
use Rattle.am_problem.specs.Texts.{IfRefused}
use Rattle.am_syntax.specs.declared.refusal.ReadError.{ReadError}
use Rattle.amurth.proofs.Dues.{answered}
use Rattle.amurth.proofs.OwnCertificates.{check_due, refused_due}
use Rattle.amurth.specs.Checked.{IsJudged}
use Rattle.amurth.proofs.checking.checked.Goals as goal

pub returns-in-Ok : goal.returns-in-Ok
returns-in-Ok c =
    check_due c.args.input.now c.judged.result
    (answered ReadsAsCertificate certificate_of IsJudged c.args.input.now c.in-Ok.certificate
    (record { short = c.requires; reads = c.in-Ok.ensures.found }) c.judged.result c.judged.ensures)

pub returns-in-Err-Refused : goal.returns-in-Err-Refused
returns-in-Err-Refused c =
    let text = c.args.input.now in
    let first =
    subst (λ (e : ReadError). IfRefused e (λ r. certificate_of text ≡ Err r)) c.in-Err-Refused.field-0-is
    c.in-Err-Refused.ensures.first in
    refused_due text c.in-Err-Refused.refusal (inr (c.requires, first)) c.refused.result c.refused.ensures
