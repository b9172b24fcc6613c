use Rattle.std.proofs.Common.{inl, refl}
use Rattle.amurth.proofs.listing.best_listed.Goals as goal

pub returns-in_ok-list_text-in-Ok : goal.returns-in_ok-list_text-in-Ok
returns-in_ok-list_text-in-Ok c =
    let all = c.in_ok-list_text-in-Ok.ensures in
    inl (record { ended = refl; small = c.in-Ok.ensures; tuples = all.0; all = all.1; wrote = all.2 })
