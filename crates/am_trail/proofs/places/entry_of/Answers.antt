use Rattle.std.proofs.Common.{arith}
use Rattle.am_trail.specs.inside.Places.{variables}
use Rattle.am_trail.proofs.Entries.{entry_there, length-variables}
use Rattle.am_trail.proofs.Placing.{some}
use Rattle.am_trail.proofs.places.entry_of.Goals as goal

pub bounds-places-variable : goal.bounds-places-variable
bounds-places-variable c = (some (variables c.args.entries.now) c.args.places.now c.requires.placed c.args.variable
    c.requires.assigned).0

pub overflow_sub-result : goal.overflow_sub-result
overflow_sub-result c =
    let there = some (variables c.args.entries.now) c.args.places.now c.requires.placed c.args.variable
    c.requires.assigned in
    omega arith

pub bounds-entries-place : goal.bounds-entries-place
bounds-entries-place c =
    let there = some (variables c.args.entries.now) c.args.places.now c.requires.placed c.args.variable
    c.requires.assigned in
    omega (arith, there.1, there.2, length-variables c.args.entries.now)

pub returns : goal.returns
returns c = λ e there is. entry_there c.args.entries.now c.args.places.now c.requires.placed e
    c.index-entries-place.result there c.args.variable is c.index-entries-place.is
