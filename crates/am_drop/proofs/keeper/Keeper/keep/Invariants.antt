use Rattle.am_drop.specs.inside.Selections.{IsSelection}
use Rattle.am_drop.proofs.keeper.Keeper.keep.Given as goal

abbrev pub invariant-loop-place : goal.invariant-loop-place
invariant-loop-place l = IsSelection l.self l.place l.selection
