use Rattle.std.proofs.Common.{arith, sym}
use Rattle.std.specs.Prelude.{None}
use Rattle.am_trail.specs.declared.entry.Entry.{Entry}
use Rattle.am_trail.specs.Trails.{upto}
use Rattle.am_solve.proofs.Marked.{entry_var}
use Rattle.am_solve.proofs.Ready.{given_all, given_more, given_none}
use Rattle.am_solve.proofs.choice.Choice.give_back.Goals as goal

pub loop-i-init : goal.loop-i-init
loop-i-init c =
    let t = c.args.trail.now in
    given_none c.args.self.now.order c.args.self.now.phases.items t.vars t.entries c.count_upto-start.result c.requires

pub loop-i-preserved : goal.loop-i-preserved
loop-i-preserved c =
    let t = c.args.trail.now in
    let d : Entry = record { literal = 0; level = 0; reason = None } in
    given_more c.loop-i.self.order c.hold.new.self c.loop-i.self.phases.items t.vars t.entries c.count_upto-start.result
    c.loop-i.i c.variable-variable.result _ d (omega arith)
    (sym
    (entry_var t c.loop-i.i c.literal-l.result c.variable-variable.result d (omega arith) c.literal-l.ensures
    c.variable-variable.ensures))
    c.hold.ensures c.loop-i.invariant

pub returns : goal.returns
returns c =
    let t = c.args.trail.now in
    given_all c.loop-i.self.order c.loop-i.self.phases.items t.vars t.entries (upto c.args.level t.entries)
    c.count_upto-start.result c.loop-i.i (omega arith) c.count_upto-start.ensures.prefix c.loop-i.invariant
