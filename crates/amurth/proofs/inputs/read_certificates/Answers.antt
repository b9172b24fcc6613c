use Rattle.std.proofs.Common.{[], ◌∷◌, Err, codes, map, ap, sym, arith, length-append, ◌∙◌}
use Rattle.std.proofs.lemmas.List.{map-append}
use Rattle.std.proofs.lemmas.Result.{err_from_is_err_and}
use Rattle.am_cert.specs.StoredDraft.{seen_draft}
use Rattle.am_syntax.specs.Pieces.{next_is, repeat_from}
use Rattle.am_syntax.proofs.Laws.{so_far_done, so_far_more}
use Rattle.amurth.specs.Analysed.{certificate_after}
use Rattle.amurth.proofs.AnalysisLaws.{certificate_moves_on, certificate_leaves_short, loop_refused}
use Rattle.amurth.proofs.inputs.read_certificates.Goals as goal

pub returns-in_err-draft-clause-value : goal.returns-in_err-draft-clause-value
returns-in_err-draft-clause-value c =
    let p = err_from_is_err_and c.from_residual.result c.from_residual.ensures.1 in
    loop_refused (λ ds. map seen_draft ds.items) c.from_residual.result c.in_err-draft.field-0.0 (p.1 ∙ ap Err p.2)
    (map seen_draft c.drafts.drafts.items) c.drafts.text c.certificate_after.new.text _
    (sym c.is_next.ensures ∙ c.drafts-test.true) c.drafts.invariant.read
    (rw c.as_slice.ensures.value at c.in_err-draft.ensures.value)

pub drafts-smaller : goal.drafts-smaller
drafts-smaller c =
    certificate_moves_on (map seen_draft c.drafts.drafts.items) c.drafts.text (seen_draft c.in_ok-draft.draft)
    c.certificate_after.new.text (rw c.as_slice.ensures.value at c.in_ok-draft.ensures.value)

pub drafts-preserved : goal.drafts-preserved
drafts-preserved c =
    let seen = c.drafts.drafts.items in
    let read = rw c.as_slice.ensures.value at c.in_ok-draft.ensures.value in
    let left = c.certificate_after.new.text in
    let room = rw c.as_slice.ensures.value at c.in_ok-draft.ensures.room in
    rw c.in_ok-put.ensures (record {
      left =
          certificate_leaves_short (map seen_draft seen) c.drafts.text left (seen_draft c.in_ok-draft.draft) read
          c.drafts.invariant.left;
      few = simp length-append (omega (arith, room));
      read =
          ap (λ ds. repeat_from (next_is (codes "certificate")) certificate_after ds c.certificate_after.new.text)
          (map-append seen_draft seen (c.in_ok-draft.draft ∷ []))
          ∙ so_far_more (next_is (codes "certificate")) certificate_after certificate_moves_on (map seen_draft seen)
          c.drafts.text
          (seen_draft c.in_ok-draft.draft) c.certificate_after.new.text _ (sym c.is_next.ensures ∙ c.drafts-test.true)
          read c.drafts.invariant.read;
    })

pub returns-clause-value : goal.returns-clause-value
returns-clause-value c =
    so_far_done (next_is (codes "certificate")) certificate_after certificate_moves_on
    (map seen_draft c.drafts.drafts.items)
    c.drafts.text _ (sym c.is_next.ensures ∙ c.drafts-test.false) c.drafts.invariant.read
