use Rattle.std.proofs.Common.{◌≡◌, take}
use Rattle.am_query.specs.Turns.{at_places}
use Rattle.am_query.proofs.places.at_places.Given as goal

abbrev pub invariant-loop-place : goal.invariant-loop-place
invariant-loop-place l = l.found ≡ at_places l.neg (take l.place-index l.places)
