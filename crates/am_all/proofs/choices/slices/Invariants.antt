use Rattle.std.proofs.Common.{◌≡◌, map, take}
use Rattle.am_all.proofs.choices.slices.Given as goal

abbrev pub invariant-loop-list : goal.invariant-loop-list
invariant-loop-list g l = map (λ list. list.now) l.slices ≡ take l.list-index l.lists
