use Rattle.std.proofs.Common.{◌++◌, [], ◌∷◌, ap, get_or, map, sym, take, ◌∙◌}
use Rattle.std.proofs.lemmas.List.{map-append, take_more}
use Rattle.am_cert.specs.Certificate.{Certificate, IsCertificate}
use Rattle.am_flow.specs.Stored.{seen_operation, seen_operations}
use Rattle.amurth.specs.Analysed.{operation}
use Rattle.amurth.proofs.AnalysisDues.{All-more}
use Rattle.amurth.proofs.analysing.operations.Goals as goal

pub certificates-preserved : goal.certificates-preserved
certificates-preserved c =
    let cs = c.args.certificates.now in
    let i = c.certificates.certificate-index in
    let x = c.certificate-item.result in
    record {
      value =
          ap seen_operations c.in_ok-push.ensures.items
          ∙ map-append seen_operation c.certificates.operations.items (c.operation.result ∷ [])
          ∙ ap (λ ys. ys ++ seen_operation c.operation.result ∷ []) c.certificates.invariant.value
          ∙ ap (λ o. map operation (take i cs) ++ o ∷ []) c.operation.ensures
          ∙ ap (λ (y : Certificate). map operation (take i cs) ++ operation y ∷ []) c.certificate-item.is
          ∙ sym (map-append operation (take i cs) (get_or cs i x ∷ []))
          ∙ ap (map operation) (sym (take_more cs i x c.certificates-test.true));
      limits =
          All-more IsCertificate cs i x c.certificates-test.true c.certificate-item.is c.certificates.invariant.limits
          c.keeps_limits.ensures;
    }
