use Rattle.std.proofs.Common.{◌≡◌, drop}
use Rattle.am_slot.specs.inside.Places.{place_from}
use Rattle.am_slot.proofs.places.place_of.Given as goal

abbrev pub invariant-loop-i : goal.invariant-loop-i
invariant-loop-i l = place_from l.i (drop l.i l.list) l.argument ≡ place_from 0 l.list l.argument
