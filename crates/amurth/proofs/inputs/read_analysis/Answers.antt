use Rattle.std.proofs.Common.{◌≤◌, map, subst, sym, ◌∙◌}
use Rattle.std.proofs.lemmas.List.{length-map}
use Rattle.am_cert.specs.StoredDraft.{seen_draft}
use Rattle.am_flow.specs.Flows.{IsFlow}
use Rattle.amurth.specs.declared.limits.TheConstants.{MOST_CERTIFICATES}
use Rattle.amurth.proofs.AnalysisLaws.{settled_length}
use Rattle.amurth.proofs.inputs.read_analysis.Goals as goal

pub returns-clause-flow : goal.returns-clause-flow
returns-clause-flow c =
    let read = c.in_ok-certificates.field-0 in
    let all = read.certificates.items in
    let cs = c.in_ok-certificates-2.certificates.items in
    let same =
    settled_length (map seen_draft all) cs c.in_ok-certificates-2.ensures ∙ length-map all seen_draft in
    subst (λ n. IsFlow n read.flow) (sym same) c.in_ok-certificates.ensures.flow

pub returns-clause-few : goal.returns-clause-few
returns-clause-few c =
    let all = c.in_ok-certificates.field-0.certificates.items in
    let cs = c.in_ok-certificates-2.certificates.items in
    let same =
    settled_length (map seen_draft all) cs c.in_ok-certificates-2.ensures ∙ length-map all seen_draft in
    subst (λ n. n ≤ MOST_CERTIFICATES) (sym same) c.in_ok-certificates.ensures.few
