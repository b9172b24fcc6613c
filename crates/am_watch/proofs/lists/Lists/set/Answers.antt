use Rattle.std.proofs.Common.{arith, ap, length, refl}
use Rattle.std.proofs.lemmas.List.{length-map}
use Rattle.std.specs.Vec.{with_item}
use Rattle.am_watch.proofs.Rows.{replaced_at}
use Rattle.am_watch.proofs.lists.Lists.set.Goals as goal

pub returns : goal.returns
returns c =
    rw (← c.self.view_is, c.code.ensures)
    (replaced_at (λ r. r.items) c.self.inside.rows.items c.args.l c.index_mut-row.result.now
    (omega (arith, ap length c.self.view_is, length-map c.self.inside.rows.items (λ r. r.items)))
    (rw c.code.ensures at c.index_mut-row.ensures.value) c.args.j c.args.watcher
    (with_item c.index_mut-row.result.now c.args.j c.args.watcher) refl)
