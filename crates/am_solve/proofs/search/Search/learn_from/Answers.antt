use Rattle.std.proofs.Common.{◌<◌, ◌++◌, map}
use Rattle.std.proofs.lemmas.List.Elements.{All-contains_itself, All-weaker}
use Rattle.std.specs.Prelude.{Contains}
use Rattle.am_lit.specs.Literal.{opposite_of, variable_of}
use Rattle.am_chain.specs.declared.chain.Step.{Step}
use Rattle.am_trail.specs.Trails.{literals, upto}
use Rattle.am_solve.proofs.Learning.{clause_derived, clause_new, clause_normal, clause_over, kept_false, keeps_back}
use Rattle.am_solve.proofs.Learning.{keeps_learn, level_le, level_low, place_inside, settled_there}
use Rattle.am_solve.proofs.Branching.{value_below}
use Rattle.am_solve.proofs.Ready.{ready_kept}
use Rattle.am_solve.proofs.search.Search.learn_from.Goals as goal

pub literal-requires : goal.literal-requires
literal-requires c =
    let s = c.args.self.now in
    let f = c.in_ok-kept.field-0 in
    place_inside (c.args.given.now ++ s.learnt) s.trail c.args.conflict f.kept.items f.steps f.place
    c.in_ok-kept.ensures.analysed c.known.ensures

pub greatest_level-level-requires : goal.greatest_level-level-requires
greatest_level-level-requires c =
    let s = c.args.self.now in
    let f = c.in_ok-kept.field-0 in
    rw c.as_slice.ensures.value
    (All-weaker (Contains f.kept.items) (λ m. Contains (literals s.trail.entries) (opposite_of m))
    (kept_false (c.args.given.now ++ s.learnt) s.trail c.args.conflict f.kept.items f.steps f.place
    c.in_ok-kept.ensures.analysed c.known.ensures)
    f.kept.items (All-contains_itself f.kept.items))

pub back_to-requires-clause-level : goal.back_to-requires-clause-level
back_to-requires-clause-level c =
    let s = c.args.self.now in
    let f = c.in_ok-kept.field-0 in
    let members = rw (c.opposite-left.ensures, c.literal.ensures) at c.in_ok-clause.ensures.members in
    let greatest = rw c.as_slice.ensures.value at c.greatest_level-level.ensures in
    level_le s.trail f.kept.items c.greatest_level-level.result
    (λ m h at. level_low (c.args.given.now ++ s.learnt) s.trail c.args.conflict f.kept.items f.steps f.place
    c.in_ok-kept.ensures.analysed c.known.ensures c.in_ok-clause.clause.items c.in_ok-clause.ensures.rising members
    c.greatest_level-level.result m c.requires.level h at) greatest

pub learn-requires-clause-normal : goal.learn-requires-clause-normal
learn-requires-clause-normal c =
    let s = c.args.self.now in
    let f = c.in_ok-kept.field-0 in
    let members = rw (c.opposite-left.ensures, c.literal.ensures) at c.in_ok-clause.ensures.members in
    rw (c.as_slice-learnt.ensures.value, c.back_to.ensures.trail)
    (clause_normal (c.args.given.now ++ s.learnt) s.trail c.args.conflict f.kept.items f.steps f.place
    c.in_ok-kept.ensures.analysed c.known.ensures c.in_ok-clause.clause.items c.in_ok-clause.ensures.rising members)

pub learn-requires-clause-derived : goal.learn-requires-clause-derived
learn-requires-clause-derived c =
    let s = c.args.self.now in
    let f = c.in_ok-kept.field-0 in
    let members = rw (c.opposite-left.ensures, c.literal.ensures) at c.in_ok-clause.ensures.members in
    rw (c.as_slice-learnt.ensures.value, c.back_to.ensures.learnt)
    (clause_derived (c.args.given.now ++ s.learnt) s.trail c.args.conflict f.kept.items f.steps f.place
    c.in_ok-kept.ensures.analysed c.known.ensures c.in_ok-clause.clause.items c.in_ok-clause.ensures.rising members
    c.requires.number)

pub learn-requires-clause-new : goal.learn-requires-clause-new
learn-requires-clause-new c =
    let s = c.args.self.now in
    let f = c.in_ok-kept.field-0 in
    let members = rw (c.opposite-left.ensures, c.literal.ensures) at c.in_ok-clause.ensures.members in
    rw (c.as_slice-learnt.ensures.value, c.back_to.ensures.learnt)
    (clause_new (c.args.given.now ++ s.learnt) s.trail c.args.conflict f.kept.items f.steps f.place
    c.in_ok-kept.ensures.analysed c.known.ensures c.in_ok-clause.clause.items c.in_ok-clause.ensures.rising members
    c.requires.level c.requires.searches.below)

pub learn-requires-clause-below : goal.learn-requires-clause-below
learn-requires-clause-below c =
    let s = c.args.self.now in
    let f = c.in_ok-kept.field-0 in
    let members = rw (c.opposite-left.ensures, c.literal.ensures) at c.in_ok-clause.ensures.members in
    let greatest = rw c.as_slice.ensures.value at c.greatest_level-level.ensures in
    rw (c.as_slice-learnt.ensures.value, c.back_to.ensures.learnt, c.back_to.ensures.trail)
    (settled_there (c.args.given.now ++ s.learnt) s.trail c.args.conflict f.kept.items f.steps f.place
    c.in_ok-kept.ensures.analysed c.known.ensures c.in_ok-clause.clause.items c.in_ok-clause.ensures.rising members
    c.greatest_level-level.result c.requires.level c.requires.searches.below greatest)

pub returns-clause-keeps : goal.returns-clause-keeps
returns-clause-keeps c = λ base on k.
    let s = c.args.self.now in
    let f = c.in_ok-kept.field-0 in
    let j = c.greatest_level-level.result in
    let members = rw (c.opposite-left.ensures, c.literal.ensures) at c.in_ok-clause.ensures.members in
    let over =
    clause_over (c.args.given.now ++ s.learnt) s.trail c.args.conflict f.kept.items f.steps f.place
    c.in_ok-kept.ensures.analysed c.known.ensures c.in_ok-clause.clause.items
    c.in_ok-clause.ensures.rising members
    base k.decided (c.in_ok-kept.ensures.kept on) (c.in_ok-kept.ensures.left on) in
    rw (
      c.in_ok-learn.ensures.learnt,
      c.learn.ensures.trail,
      c.as_slice-learnt.ensures.value,
      c.back_to.ensures.learnt,
      c.back_to.ensures.trail,
    )
    (keeps_learn base s.learnt (upto j s.trail.entries) c.in_ok-clause.clause.items over
    (keeps_back base s.learnt s.trail.entries j k))

pub raise-requires-clause-steps : goal.raise-requires-clause-steps
raise-requires-clause-steps c =
    let s = c.args.self.now in
    let f = c.in_ok-kept.field-0 in
    rw (c.as_slice-2.ensures, c.requires.chooses.activities)
    (All-weaker (λ (x : Step). Contains (map variable_of (literals s.trail.entries)) x.variable)
    (λ (x : Step). x.variable < s.trail.vars) (λ x h. value_below s.trail c.known.ensures x.variable h) f.steps
    c.in_ok-kept.ensures.analysed.unique.reached.named)

pub raise-requires-clause-clause : goal.raise-requires-clause-clause
raise-requires-clause-clause c =
    let s = c.args.self.now in
    let f = c.in_ok-kept.field-0 in
    let members = rw (c.opposite-left.ensures, c.literal.ensures) at c.in_ok-clause.ensures.members in
    rw (c.as_slice-learnt.ensures.value, c.requires.chooses.activities)
    ((clause_normal (c.args.given.now ++ s.learnt) s.trail c.args.conflict f.kept.items f.steps f.place
    c.in_ok-kept.ensures.analysed c.known.ensures c.in_ok-clause.clause.items
    c.in_ok-clause.ensures.rising members).below)

pub back_to-requires-clause-chooses : goal.back_to-requires-clause-chooses
back_to-requires-clause-chooses c =
    let s = c.args.self.now in
    rw c.raise.ensures.phases
    (ready_kept s.choice.order c.raise.new.self.order s.choice.phases.items s.trail.vars s.trail.entries
    c.raise.ensures.order c.requires.chooses)

pub returns-clause-chooses : goal.returns-clause-chooses
returns-clause-chooses c = rw (c.learn.ensures.choice, c.learn.ensures.trail) c.back_to.ensures.chooses
