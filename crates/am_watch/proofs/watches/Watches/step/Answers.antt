use Rattle.std.proofs.Common.{◌++◌}
use Rattle.am_trail.specs.declared.entry.Entry.{Entry}
use Rattle.std.specs.Prelude.{None}
use Rattle.am_watch.proofs.Keeping.{passed}
use Rattle.am_watch.proofs.Sweeping.{head_literal, head_below}
use Rattle.am_watch.proofs.watches.Watches.step.Goals as goal

pub returns-clause-holds : goal.returns-clause-holds
returns-clause-holds c =
    let clauses = c.args.given.now ++ c.args.learnt.now in
    let t = c.args.trail.now in
    let u = c.sweep.new.trail in
    let d : Entry = record { literal = 0; level = 0; reason = None } in
    rw c.pass.ensures (passed c.sweep.new.self.lists c.sweep.new.self.pairs.items c.sweep.new.self.fresh.items clauses u
    c.in_ok-i.ensures.holds c.opposite-l.result d c.known-2.ensures
    (head_below clauses t u c.sweep.ensures.extends c.sweep.ensures.head c.requires.head)
    (head_literal clauses t u c.opposite-l.result c.literal.result c.sweep.ensures.extends c.sweep.ensures.head
    c.requires.head (rw c.head.ensures at c.literal.ensures) c.opposite-l.ensures d)
    (rw c.in_default.is at c.in_ok-i.ensures.swept))
