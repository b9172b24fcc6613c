use Rattle.std.proofs.Common.{ap, map, sym, ◌∙◌}
use Rattle.std.specs.Vec.Iter.{into_iter_items}
use Rattle.am_cert.specs.StoredDraft.{seen_draft}
use Rattle.amurth.specs.Analysed.{all_settled}
use Rattle.amurth.proofs.AnalysisLaws.{prefixed, settled_more}
use Rattle.amurth.proofs.inputs.settle_all.Goals as goal

pub drafts-preserved : goal.drafts-preserved
drafts-preserved c =
    let front = c.drafts.certificates.items in
    rw c.in_ok-put.ensures
    (sym (settled_more front (seen_draft c.in-Some.draft) (map seen_draft (into_iter_items c.next.new.self))
    c.in_ok-certificate.certificate c.in_ok-certificate.ensures)
    ∙ ap (λ xs. prefixed front (all_settled (map seen_draft xs))) (sym c.in-Some.ensures.steps.0)
    ∙ c.drafts.invariant)
