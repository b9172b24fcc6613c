use Rattle.std.proofs.Common.{◌≡◌, map}
use Rattle.std.specs.Vec.Iter.{into_iter_items}
use Rattle.am_cert.specs.StoredDraft.{seen_draft}
use Rattle.amurth.specs.Analysed.{all_settled}
use Rattle.amurth.proofs.AnalysisLaws.{prefixed}
use Rattle.amurth.proofs.inputs.settle_all.Given as goal

abbrev pub invariant-drafts : goal.invariant-drafts
invariant-drafts l =
    prefixed l.certificates.items (all_settled (map seen_draft (into_iter_items l.draft-iterator)))
    ≡ all_settled (map seen_draft (into_iter_items l.initial.draft-iterator))
