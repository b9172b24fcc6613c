use Rattle.std.proofs.Common.{◌≡◌, map, take}
use Rattle.am_all.proofs.choices.copied.Given as goal

abbrev pub invariant-loop-item : goal.invariant-loop-item
invariant-loop-item g l = map (λ t. t.now) l.copy ≡ map (λ t. t.now) (take l.item-index l.row)
