use Rattle.std.proofs.Common.{[], map, refl, sym, ap, ◌∙◌, subst}
use Rattle.std.proofs.lemmas.List.{get_or-map, length-map}
use Rattle.am_domain.specs.Tuple.{IsTuple}
use Rattle.am_all.proofs.Lists.{taken}
use Rattle.am_all.proofs.CaseLaws.{outcomes-used, outcomes-unused}
use Rattle.am_all.proofs.cases.outcomes.Goals as goal
use Rattle.am_all.proofs.cases.outcomes.Goals.{then-is_assumed+in_ok-push, else-is_assumed, In_ok-words}

-- the words of the row are a tuple
row-tuple : (c : In_ok-words) → IsTuple c.args.p.now.width c.args.p.now.inputs c.in_ok-words.words
row-tuple c =
    let rows = c.args.rows.now in
    let i = c.loop-row.row-index in
    let here = c.requires i [] (simp length-map c.loop-row-test.true) in
    let is = get_or-map (λ row. map (λ c. c.now) row) rows i c.row-item.result [] c.loop-row-test.true ∙ ap
    (λ row. map (λ c. c.now) row) (sym c.row-item.is) in
    rw (c.in_ok-words.ensures, c.as_slice.ensures) (subst (IsTuple c.args.p.now.width c.args.p.now.inputs) is here)

pub is_assumed-requires : goal.is_assumed-requires
is_assumed-requires c = rw c.as_slice-in-loop-row.ensures (row-tuple (goal.at.is_assumed-requires c).In_ok-words)

pub operation_at-image-requires : goal.operation_at-image-requires
operation_at-image-requires c =
    rw c.as_slice-then-is_assumed.ensures (row-tuple (goal.at.operation_at-image-requires c).In_ok-words)

pub loop-row-preserved : goal.loop-row-preserved
loop-row-preserved c =
    let p = c.args.p.now in
    let rows = c.args.rows.now in
    let i = c.loop-row.row-index in
    let more = taken (λ row. map (λ c. c.now) row) rows i c.row-item.result c.loop-row-test.true c.row-item.is in
    let words = c.in_ok-words.ensures ∙ ap (λ row. map (λ c. c.now) row) c.as_slice.ensures in
    elim c.if-is_assumed.branch [
      | then-is_assumed+in_ok-push w ↦
          rw (more, w.outcomes-is, w.in_ok-push.ensures.ok)
          (outcomes-used p _ c.loop-row.outcomes _ c.loop-row.invariant _
          (record {
            words = row-tuple (goal.at.loop-row-preserved c).In_ok-words;
            assumed = rw c.as_slice-in-loop-row.ensures at (w.if-is_assumed.ensures.0 refl);
            image = rw w.as_slice-then-is_assumed.ensures at w.operation_at-image.ensures;
          }) words)
      | else-is_assumed w ↦
          rw (more, w.outcomes-is)
          (outcomes-unused p _ c.loop-row.outcomes _ c.loop-row.invariant
          (λ assumed. let no = w.if-is_assumed.ensures.1 (rw (c.as_slice-in-loop-row.ensures, words) assumed) in cc))
    ]
