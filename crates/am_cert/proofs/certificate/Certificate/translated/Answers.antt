use Rattle.std.proofs.Common.{subst, sym}
use Rattle.am_cert.specs.Certificate.{Certificate}
use Rattle.am_cert.specs.inside.Translations.{AreProofsFor}
use Rattle.am_cert.proofs.Translations.{translated_certificate}
use Rattle.am_cert.proofs.certificate.Certificate.translated.Goals as goal

pub invariant_of-result : goal.invariant_of-result
invariant_of-result c =
    let own : Certificate =
    record {
      version = c.self.inside.version;
      problem = c.self.inside.problem;
      outcome = c.self.inside.outcome;
      proofs = c.self.inside.proofs;
    } in
    let proofs = c.in_ok-proofs.proofs in
    let are : AreProofsFor own proofs =
    subst (λ (k : Certificate). AreProofsFor k proofs) (sym c.self.view_is) c.in_ok-proofs.ensures in
    rw (c.with_hints.ensures, c.without_logs.ensures) (translated_certificate own proofs c.self.invariant are)
