use Rattle.std.proofs.Common.{arith, ◌++◌, refl}
use Rattle.am_watch.proofs.Visiting.{blocked, blocked_kept, blocked_true, blocker_var, code_below, other_there, true_by}
use Rattle.am_watch.proofs.Visiting.{turns, watcher}
use Rattle.am_watch.proofs.watches.Watches.visit.Goals as goal

pub is_true-requires : goal.is_true-requires
is_true-requires c = blocker_var c.args.self.now.lists c.args.self.now.pairs.items c.args.self.now.fresh.items
    (c.args.given.now ++ c.args.learnt.now) c.args.trail.now c.args.l c.args.j c.requires.holds c.requires.j
    c.get-watcher.result c.get-watcher.ensures

pub returns-then-is_true-clause-visited : goal.returns-then-is_true-clause-visited
returns-then-is_true-clause-visited c = (
  record { same = refl; begins = λ k d lt. refl },
  true_by c.args.self.now.lists c.args.self.now.pairs.items c.args.self.now.fresh.items
      (c.args.given.now ++ c.args.learnt.now) c.args.trail.now c.args.l c.args.j c.requires.holds c.requires.j
      c.get-watcher.result c.get-watcher.ensures
      c.args.trail.now.entries c.get-watcher.result.blocker
      (watcher c.args.self.now.lists c.args.self.now.pairs.items c.args.self.now.fresh.items
      (c.args.given.now ++ c.args.learnt.now) c.args.trail.now c.args.l c.args.j c.requires.holds c.requires.j
      c.get-watcher.result c.get-watcher.ensures).blocker
      (c.is_true.ensures c.if-is_true.true),
)

pub is_true-requires-2 : goal.is_true-requires-2
is_true-requires-2 c = c.requires.holds.variables c.get-watcher.result.clause c.other_of-other.result
    (other_there c.args.self.now.lists c.args.self.now.pairs.items c.args.self.now.fresh.items
    (c.args.given.now ++ c.args.learnt.now) c.args.trail.now c.args.l c.args.j c.requires.holds c.requires.j
    c.get-watcher.result c.get-watcher.ensures c.other_of-other.result c.index.result.now c.index.ensures
    c.other_of-other.ensures)

pub returns-then-is_true-2-clause-holds : goal.returns-then-is_true-2-clause-holds
returns-then-is_true-2-clause-holds c = rw c.set.ensures
    (blocked c.args.self.now.lists c.args.self.now.pairs.items c.args.self.now.fresh.items
    (c.args.given.now ++ c.args.learnt.now) c.args.trail.now c.args.l c.args.j c.requires.holds c.requires.j
    c.get-watcher.result c.get-watcher.ensures c.other_of-other.result c.index.result.now c.index.ensures
    c.other_of-other.ensures c.requires.l)

pub returns-then-is_true-2-clause-visited : goal.returns-then-is_true-2-clause-visited
returns-then-is_true-2-clause-visited c = rw c.set.ensures (
  blocked_kept c.args.self.now.lists c.args.self.now.pairs.items c.args.self.now.fresh.items
      (c.args.given.now ++ c.args.learnt.now) c.args.trail.now c.args.l c.args.j c.requires.holds c.requires.j
      c.get-watcher.result c.get-watcher.ensures c.other_of-other.result c.index.result.now c.index.ensures
      c.other_of-other.ensures c.requires.l,
  blocked_true c.args.self.now.lists c.args.self.now.pairs.items c.args.self.now.fresh.items
      (c.args.given.now ++ c.args.learnt.now) c.args.trail.now c.args.l c.args.j c.requires.holds c.requires.j
      c.get-watcher.result c.get-watcher.ensures c.other_of-other.result c.index.result.now c.index.ensures
      c.other_of-other.ensures c.requires.l (c.is_true-2.ensures c.if-is_true-2.true),
)

pub clause_at-clause-requires : goal.clause_at-clause-requires
clause_at-clause-requires c = (watcher c.args.self.now.lists c.args.self.now.pairs.items c.args.self.now.fresh.items
    (c.args.given.now ++ c.args.learnt.now) c.args.trail.now c.args.l c.args.j c.requires.holds c.requires.j
    c.get-watcher.result c.get-watcher.ensures).number

pub index-requires : goal.index-requires
index-requires c =
    let w = watcher c.args.self.now.lists c.args.self.now.pairs.items c.args.self.now.fresh.items
    (c.args.given.now ++ c.args.learnt.now) c.args.trail.now c.args.l c.args.j c.requires.holds c.requires.j
    c.get-watcher.result c.get-watcher.ensures in
    omega (arith, w.number, c.requires.holds.numbers, c.args.self.now.pairs.ok.0)

pub open_besides-requires : goal.open_besides-requires
open_besides-requires c = λ l there. c.requires.holds.variables c.get-watcher.result.clause l
    (rw c.clause_at-clause.ensures at there)

pub turn-requires-clause-turn : goal.turn-requires-clause-turn
turn-requires-clause-turn c =
    let some = rw c.clause_at-clause.ensures at c.in-Some.ensures.some in
    turns c.args.self.now.lists c.args.self.now.pairs.items c.args.self.now.fresh.items
    (c.args.given.now ++ c.args.learnt.now) c.args.trail.now c.args.l c.args.j c.requires.holds c.requires.j
    c.get-watcher.result c.get-watcher.ensures c.other_of-other.result c.index.result.now c.index.ensures
    c.other_of-other.ensures c.in-Some.next some.0 some.1 some.2 c.requires.untrue

pub turn-requires-clause-next : goal.turn-requires-clause-next
turn-requires-clause-next c =
    let some = rw c.clause_at-clause.ensures at c.in-Some.ensures.some in
    code_below c.in-Some.next c.args.trail.now.vars _
    (c.requires.holds.variables c.get-watcher.result.clause c.in-Some.next some.0) c.requires.holds.codes

pub force-requires-clause-number : goal.force-requires-clause-number
force-requires-clause-number c = (watcher c.args.self.now.lists c.args.self.now.pairs.items c.args.self.now.fresh.items
    (c.args.given.now ++ c.args.learnt.now) c.args.trail.now c.args.l c.args.j c.requires.holds c.requires.j
    c.get-watcher.result c.get-watcher.ensures).number

pub force-requires-clause-forced : goal.force-requires-clause-forced
force-requires-clause-forced c = (
  other_there c.args.self.now.lists c.args.self.now.pairs.items c.args.self.now.fresh.items
      (c.args.given.now ++ c.args.learnt.now) c.args.trail.now c.args.l c.args.j c.requires.holds c.requires.j
      c.get-watcher.result c.get-watcher.ensures c.other_of-other.result c.index.result.now c.index.ensures
      c.other_of-other.ensures,
  rw c.clause_at-clause.ensures at c.in_default.ensures.none,
)

pub force-requires-clause-variable : goal.force-requires-clause-variable
force-requires-clause-variable c =
    c.requires.holds.variables c.get-watcher.result.clause c.other_of-other.result
    (other_there c.args.self.now.lists c.args.self.now.pairs.items c.args.self.now.fresh.items
    (c.args.given.now ++ c.args.learnt.now) c.args.trail.now c.args.l c.args.j c.requires.holds c.requires.j
    c.get-watcher.result c.get-watcher.ensures c.other_of-other.result c.index.result.now c.index.ensures
    c.other_of-other.ensures)

pub returns-then-force-clause-holds : goal.returns-then-force-clause-holds
returns-then-force-clause-holds c = c.force.ensures.holds c.args.self.now.lists c.args.self.now.pairs.items
    c.args.self.now.fresh.items c.requires.holds

pub returns-then-force-clause-visited : goal.returns-then-force-clause-visited
returns-then-force-clause-visited c = (
  record { same = refl; begins = λ k d lt. refl },
  true_by c.args.self.now.lists c.args.self.now.pairs.items c.args.self.now.fresh.items
      (c.args.given.now ++ c.args.learnt.now) c.args.trail.now c.args.l c.args.j c.requires.holds c.requires.j
      c.get-watcher.result c.get-watcher.ensures
      c.force.new.trail.entries c.other_of-other.result
      (other_there c.args.self.now.lists c.args.self.now.pairs.items c.args.self.now.fresh.items
      (c.args.given.now ++ c.args.learnt.now) c.args.trail.now c.args.l c.args.j c.requires.holds c.requires.j
      c.get-watcher.result c.get-watcher.ensures c.other_of-other.result c.index.result.now c.index.ensures
      c.other_of-other.ensures) (c.force.ensures.yes c.if-force.true),
)

pub returns-else-force-clause-holds : goal.returns-else-force-clause-holds
returns-else-force-clause-holds c = c.force.ensures.holds c.args.self.now.lists c.args.self.now.pairs.items
    c.args.self.now.fresh.items c.requires.holds

pub returns-else-force-clause-visited : goal.returns-else-force-clause-visited
returns-else-force-clause-visited c = (
  (watcher c.args.self.now.lists c.args.self.now.pairs.items
      c.args.self.now.fresh.items (c.args.given.now ++ c.args.learnt.now) c.args.trail.now c.args.l c.args.j
      c.requires.holds c.requires.j c.get-watcher.result c.get-watcher.ensures).number,
  c.force.ensures.no c.if-force.false,
)
