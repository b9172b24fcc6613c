use Rattle.std.proofs.Common.{arith, ◌++◌, ◌∙◌}
use Rattle.am_watch.specs.Lists.{list_at}
use Rattle.am_watch.proofs.Extending.{Extends-trans}
use Rattle.am_watch.proofs.Sweeping.{done_more, done_cut, done_all, code_still}
use Rattle.am_watch.proofs.watches.Watches.sweep.Goals as goal

pub returns-in_err-visit-clause-extends : goal.returns-in_err-visit-clause-extends
returns-in_err-visit-clause-extends c = Extends-trans (c.args.given.now ++ c.args.learnt.now) c.args.trail.now
    c.loop-j.trail c.visit.new.trail c.loop-j.invariant.extends c.visit.ensures.extends

pub loop-j-preserved-in-Stays : goal.loop-j-preserved-in-Stays
loop-j-preserved-in-Stays c =
    let clauses = c.args.given.now ++ c.args.learnt.now in
    let i = c.loop-j.invariant in
    let v = rw c.in-Stays.is at c.in_ok-visit.ensures.visited in
    record {
      holds = c.in_ok-visit.ensures.holds;
      extends = Extends-trans clauses c.args.trail.now c.loop-j.trail c.visit.new.trail i.extends
          c.visit.ensures.extends;
      head = c.visit.ensures.head ∙ i.head;
      fresh = c.visit.ensures.fresh ∙ i.fresh;
      code = code_still clauses c.loop-j.trail c.visit.new.trail _ _ c.args.l c.visit.ensures.extends i.holds.codes
          c.in_ok-visit.ensures.holds.codes i.code;
      done = done_more clauses c.loop-j.trail c.visit.new.trail c.visit.ensures.extends
          (list_at c.loop-j.self.lists c.args.l) (list_at c.visit.new.self.lists c.args.l) c.loop-j.j v.0 i.done v.1;
    }

pub loop-j-preserved : goal.loop-j-preserved
loop-j-preserved c =
    let clauses = c.args.given.now ++ c.args.learnt.now in
    let i = c.loop-j.invariant in
    let v = rw c.in-Goes.is at c.in_ok-visit.ensures.visited in
    record {
      holds = c.in_ok-visit.ensures.holds;
      extends = Extends-trans clauses c.args.trail.now c.loop-j.trail c.visit.new.trail i.extends
          c.visit.ensures.extends;
      head = c.visit.ensures.head ∙ i.head;
      fresh = c.visit.ensures.fresh ∙ i.fresh;
      code = code_still clauses c.loop-j.trail c.visit.new.trail _ _ c.args.l c.visit.ensures.extends i.holds.codes
          c.in_ok-visit.ensures.holds.codes i.code;
      done = done_cut clauses c.loop-j.trail c.visit.new.trail c.visit.ensures.extends
          (list_at c.loop-j.self.lists c.args.l) (list_at c.visit.new.self.lists c.args.l) c.loop-j.j v i.done;
    }

pub returns-in-Conflicts-clause-extends : goal.returns-in-Conflicts-clause-extends
returns-in-Conflicts-clause-extends c = Extends-trans (c.args.given.now ++ c.args.learnt.now) c.args.trail.now
    c.loop-j.trail c.visit.new.trail c.loop-j.invariant.extends c.visit.ensures.extends

pub returns-clause-swept : goal.returns-clause-swept
returns-clause-swept c = done_all (c.args.given.now ++ c.args.learnt.now) (list_at c.loop-j.self.lists c.args.l)
    c.loop-j.trail.entries c.loop-j.j (omega (arith, c.loop-j-test.false)) c.loop-j.invariant.done
