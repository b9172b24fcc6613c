use Rattle.std.proofs.Common.{map}
use Rattle.am_all.proofs.ChoiceLaws.{extended-more}
use Rattle.am_all.proofs.choices.longer.Goals as goal

pub loop-row-preserved : goal.loop-row-preserved
loop-row-preserved g c =
    extended-more (λ row. map (λ t. t.now) row) c.args.list.now c.args.rows.now c.loop-row.row-index
    c.row-item.result _ _
    c.loop-row-test.true c.row-item.is c.loop-row.invariant (rw c.as_slice.ensures at c.in_ok-push_longer.ensures)
