use Rattle.am_all.proofs.ChoiceLaws.{choices-more}
use Rattle.am_all.proofs.choices.choices.Goals as goal

pub loop-list-preserved : goal.loop-list-preserved
loop-list-preserved g c =
    choices-more (λ list. list.now) c.args.lists.now c.loop-list.list-index c.list-item.result _ _
    c.loop-list-test.true c.list-item.is c.loop-list.invariant (rw c.as_slice.ensures at c.in_ok-rows.ensures)
