use Rattle.std.proofs.Common.{arith}
use Rattle.am_trail.specs.inside.Places.{variables}
use Rattle.am_trail.proofs.Entries.{length-variables}
use Rattle.am_trail.proofs.Placing.{some}
use Rattle.am_trail.proofs.places.place_of.Goals as goal

pub bounds-places-variable : goal.bounds-places-variable
bounds-places-variable c = (some (variables c.args.entries.now) c.args.places.now c.requires.placed c.args.variable
    c.requires.assigned).0

pub overflow_sub-result : goal.overflow_sub-result
overflow_sub-result c =
    let there = some (variables c.args.entries.now) c.args.places.now c.requires.placed c.args.variable
    c.requires.assigned in
    omega arith

pub returns : goal.returns
returns c =
    let there = some (variables c.args.entries.now) c.args.places.now c.requires.placed c.args.variable
    c.requires.assigned in
    record {
      within = omega (arith, there.1, there.2, length-variables c.args.entries.now);
      at = (c.requires.placed.back c.args.variable there.0 (λ e. absurd (omega (arith, there.1)))).1;
    }
