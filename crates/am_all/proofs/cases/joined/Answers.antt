use Rattle.am_all.proofs.CaseLaws.{joined-more}
use Rattle.am_all.proofs.cases.joined.Goals as goal

pub loop-value-preserved : goal.loop-value-preserved
loop-value-preserved c =
    joined-more (λ v. v.now.fields) c.args.values.now c.loop-value.value-index c.value-item.result c.loop-value.fields _
    c.loop-value-test.true c.value-item.is c.loop-value.invariant
    (rw c.as_slice.ensures.value at c.in_ok-push_all.ensures)
