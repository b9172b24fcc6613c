use Rattle.std.proofs.Common.{◌≡◌, map, take}
use Rattle.am_tree.specs.Listed.{choices}
use Rattle.am_all.proofs.choices.choices.Given as goal

abbrev pub invariant-loop-list : goal.invariant-loop-list
invariant-loop-list g l = map (λ row. map (λ t. t.now) row) l.rows ≡ choices
    (map (λ list. list.now) (take l.list-index l.lists))
