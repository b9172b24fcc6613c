use Rattle.std.proofs.Common.{◌≡◌}
use Rattle.std.specs.Prelude.{None}
use Rattle.am_solve.proofs.Decisions.{none_of}
use Rattle.am_trail.proofs.Laws.{shorter_held}
use Rattle.am_solve.proofs.Ready.{none_held, ready_decided, ready_taken}
use Rattle.am_solve.proofs.choice.Choice.pick_active.Goals as goal

pub returns-in_default-clause-none : goal.returns-in_default-clause-none
returns-in_default-clause-none c =
    let s = c.loop-variable.self in
    let none : c.take_first.result ≡ None = none_of c.take_first.result c.in_default.not-Some in
    let h = rw none at c.take_first.ensures.none in
    none_held s.order s.phases.items c.args.trail.now.vars c.args.trail.now.entries h.0 c.loop-variable.invariant

pub returns-then-not-has_value-clause-ready_some : goal.returns-then-not-has_value-clause-ready_some
returns-then-not-has_value-clause-ready_some c = λ e is.
    let s = c.loop-variable.self in
    ready_decided c.in-Some.variable s.order c.take_first.new.self s.phases.items c.args.trail.now.vars
    c.args.trail.now.entries c.literal-l.result e c.in-Some.ensures.taken c.literal-l.ensures is
    c.loop-variable.invariant

pub loop-variable-smaller : goal.loop-variable-smaller
loop-variable-smaller c =
    shorter_held c.in-Some.variable c.loop-variable.self.order c.take_first.new.self c.in-Some.ensures.taken
    c.known-in-loop-variable.ensures.rising c.in-Some.ensures.first.held

pub loop-variable-preserved : goal.loop-variable-preserved
loop-variable-preserved c =
    let s = c.loop-variable.self in
    ready_taken c.in-Some.variable s.order c.take_first.new.self s.phases.items c.args.trail.now.vars
    c.args.trail.now.entries c.in-Some.ensures.taken
    (rw c.literal-l.ensures at (c.has_value.ensures.yes c.if-not-has_value.false)) c.loop-variable.invariant
