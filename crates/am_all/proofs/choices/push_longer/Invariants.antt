use Rattle.std.proofs.Common.{◌≡◌, ◌++◌, ◌∷◌, [], map, take}
use Rattle.am_all.proofs.choices.push_longer.Given as goal

abbrev pub invariant-loop-item : goal.invariant-loop-item
invariant-loop-item g l =
    map (λ row. map (λ t. t.now) row) l.rows ≡
    map (λ row. map (λ t. t.now) row) l.initial.rows ++ map (λ x. map (λ t. t.now) l.row ++ x ∷ [])
    (take l.item-index l.list)
