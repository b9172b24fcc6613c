use Rattle.std.proofs.Common.{◌≡◌, rules, subst, sym}
use Rattle.am_cert.proofs.Laws.{printed_certificates_read}
use Rattle.am_cert.specs.Printing.{certificate_text}
use Rattle.am_cert.specs.Texts.{ReadsAsCertificate}
use Rattle.amurth.proofs.translating.hinted_text.Goals as goal

pub returns : goal.returns
returns c =
    let hinted = c.in_ok-hinted.hinted in
    let wrote : c.finish.result.items ≡ certificate_text hinted = search rules in
    record {
      hinted = hinted;
      same = c.in_ok-hinted.ensures;
      wrote = wrote;
      reads = subst (λ text. ReadsAsCertificate text hinted) (sym wrote)
          (printed_certificates_read hinted c.keeps_limits.ensures);
    }
