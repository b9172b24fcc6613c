use Rattle.std.proofs.Common.{map, take, sym, ap, ◌∙◌}
use Rattle.std.specs.List.{concat}
use Rattle.am_all.specs.declared.values.Value.{Value}
use Rattle.am_all.specs.inside.Cases.{IsCaseBy}
use Rattle.am_all.proofs.ChoiceLaws.{map-map}
use Rattle.am_all.proofs.Lists.{taken, zip-push}
use Rattle.am_all.proofs.cases.cases.Goals as goal

pub loop-row-preserved : goal.loop-row-preserved
loop-row-preserved c =
    let rows = c.args.rows.now in
    let i = c.loop-row.row-index in
    let outcomes = c.args.outcomes.now in
    rw (
      taken (λ row. map (λ v. v.now) row) rows i c.row-item.result c.loop-row-test.true c.row-item.is,
      c.in_ok-push.ensures.ok,
    )
    (zip-push (IsCaseBy outcomes) (take i (map (λ row. map (λ v. v.now) row) rows)) c.loop-row.cases
    (map (λ v. v.now) c.row-item.result) _ c.loop-row.invariant
    (record {
      fields = rw c.as_slice.ensures at c.in_ok-joined.ensures ∙ ap concat
          (sym (map-map (λ (v : Value). v.fields) (λ v. v.now) c.row-item.result));
      images = rw c.as_slice-in-loop-row.ensures at c.images.ensures;
    }))
