use Rattle.std.proofs.Common.{◌++◌}
use Rattle.am_watch.specs.Watching.{clause_at}
use Rattle.am_watch.proofs.Keeping.{guarded_open, guarded_current}
use Rattle.am_watch.proofs.Looking.{number_there, still_false, unfalse_true}
use Rattle.am_watch.proofs.watches.Watches.look.Goals as goal

pub clause_at-clause-requires : goal.clause_at-clause-requires
clause_at-clause-requires c = c.requires.holds.in_range c.index-number.result.now
    (number_there c.args.self.now.fresh.items c.args.k c.index-number.result.now c.requires.k c.index-number.ensures)

pub first_open-requires : goal.first_open-requires
first_open-requires c = λ l there. c.requires.holds.variables c.index-number.result.now l
    (rw c.clause_at-clause.ensures at there)

pub returns-in_default-clause-looked : goal.returns-in_default-clause-looked
returns-in_default-clause-looked c = (
  c.requires.holds.in_range c.index-number.result.now
      (number_there c.args.self.now.fresh.items c.args.k c.index-number.result.now c.requires.k c.index-number.ensures),
  rw c.clause_at-clause.ensures at c.in_default.ensures.none,
)

pub open_besides-requires : goal.open_besides-requires
open_besides-requires c = λ l there. c.requires.holds.variables c.index-number.result.now l
    (rw c.clause_at-clause.ensures at there)

pub watch-requires-clause-first : goal.watch-requires-clause-first
watch-requires-clause-first c = guarded_open c.args.trail.now
    (clause_at (c.args.given.now ++ c.args.learnt.now) c.index-number.result.now) c.in-Some.first
    c.in-Some.ensures.some.1

pub watch-requires-clause-second : goal.watch-requires-clause-second
watch-requires-clause-second c = guarded_open c.args.trail.now
    (clause_at (c.args.given.now ++ c.args.learnt.now) c.index-number.result.now) c.in-Some-open_besides.second
    c.in-Some-open_besides.ensures.some.2

pub force-requires-clause-forced : goal.force-requires-clause-forced
force-requires-clause-forced c = (
  rw c.clause_at-clause.ensures at c.in-Some.ensures.some.0,
  rw c.clause_at-clause.ensures at c.in_default-open_besides.ensures.none,
)

pub force-requires-clause-variable : goal.force-requires-clause-variable
force-requires-clause-variable c = c.requires.holds.variables c.index-number.result.now c.in-Some.first
    (rw c.clause_at-clause.ensures at c.in-Some.ensures.some.0)

pub returns-then-not-force-clause-holds : goal.returns-then-not-force-clause-holds
returns-then-not-force-clause-holds c = c.force.ensures.holds c.args.self.now.lists c.args.self.now.pairs.items
    c.args.self.now.fresh.items c.requires.holds

pub returns-then-not-force-clause-looked : goal.returns-then-not-force-clause-looked
returns-then-not-force-clause-looked c = (
  c.requires.holds.in_range c.index-number.result.now
      (number_there c.args.self.now.fresh.items c.args.k c.index-number.result.now c.requires.k c.index-number.ensures),
  c.force.ensures.no c.if-not-force.true,
)

pub drop_fresh-requires-clause-holds : goal.drop_fresh-requires-clause-holds
drop_fresh-requires-clause-holds c = c.force.ensures.holds c.args.self.now.lists c.args.self.now.pairs.items
    c.args.self.now.fresh.items c.requires.holds

pub false_at_level-requires : goal.false_at_level-requires
false_at_level-requires c =
    still_false (c.args.given.now ++ c.args.learnt.now) c.args.trail.now c.force.new.trail c.force.ensures.extends
    c.clause_at-clause.result.now c.in-Some.first c.in_default-open_besides.ensures.none

pub watch-requires-in-Some-false_at_level-clause-holds : goal.watch-requires-in-Some-false_at_level-clause-holds
watch-requires-in-Some-false_at_level-clause-holds c =
    c.force.ensures.holds c.args.self.now.lists c.args.self.now.pairs.items c.args.self.now.fresh.items c.requires.holds

pub watch-requires-in-Some-false_at_level-clause-first : goal.watch-requires-in-Some-false_at_level-clause-first
watch-requires-in-Some-false_at_level-clause-first c =
    guarded_open c.force.new.trail (clause_at (c.args.given.now ++ c.args.learnt.now) c.index-number.result.now)
    c.in-Some.first
    (unfalse_true c.force.new.trail c.in-Some.first c.known.ensures (c.force.ensures.yes c.if-not-force.false))

pub watch-requires-in-Some-false_at_level-clause-second : goal.watch-requires-in-Some-false_at_level-clause-second
watch-requires-in-Some-false_at_level-clause-second c =
    guarded_current c.force.new.trail (clause_at (c.args.given.now ++ c.args.learnt.now) c.index-number.result.now)
    c.in-Some-false_at_level.second c.known.ensures (
      c.in-Some.first,
      rw c.clause_at-clause.ensures at c.in-Some.ensures.some.0,
      c.force.ensures.yes c.if-not-force.false,
    )
    c.in-Some-false_at_level.ensures.2

pub returns-clause-holds : goal.returns-clause-holds
returns-clause-holds c = c.force.ensures.holds c.args.self.now.lists c.args.self.now.pairs.items
    c.args.self.now.fresh.items c.requires.holds
