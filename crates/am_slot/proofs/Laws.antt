-- What the proofs of other crates may cite of this crate's lemmas: its laws.
use Rattle.am_slot.specs.Theorems.{SelectorsAreThoseOfTheLayout, AssignmentsServe, DerivedTuplesAreReached}
use Rattle.am_slot.specs.Theorems.{TemplatesMakeSelectors, BlocksMakeTheirWeight}
use Rattle.am_slot.proofs.Scope as scope
use Rattle.am_slot.proofs.Slots.{counted_layout}
use Rattle.am_slot.proofs.Whole.{block_makes}

-- there is one selector for each production of each slot of the layout
pub selectors_are_those_of_the_layout : SelectorsAreThoseOfTheLayout
selectors_are_those_of_the_layout = counted_layout

-- truth values that meet a template choose one tuple that derives, and every block reads as it
pub assignments_serve : AssignmentsServe
assignments_serve = scope.assignments_serve

-- each tuple that derives is chosen by truth values that meet a template, and every block can be met from there
pub derived_tuples_are_reached : DerivedTuplesAreReached
derived_tuples_are_reached = scope.tuple_reached

-- a template makes its selectors, as inputs, and clauses over them
pub templates_make_selectors : TemplatesMakeSelectors
templates_make_selectors = scope.template_makes

-- a block makes at most as many gates as it weighs, and no input
pub blocks_make_their_weight : BlocksMakeTheirWeight
blocks_make_their_weight = block_makes
