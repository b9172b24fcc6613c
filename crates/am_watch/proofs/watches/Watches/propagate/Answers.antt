use Rattle.std.proofs.Common.{arith, ◌++◌, ◌≡◌, length}
use Rattle.am_watch.specs.Watching.{clause_at}
use Rattle.am_watch.proofs.Extending.{Extends-trans, true_still}
use Rattle.am_watch.proofs.Keeping.{all_settled}
use Rattle.am_watch.proofs.watches.Watches.propagate.Goals as goal

pub returns-in_err-i-2-clause-extends : goal.returns-in_err-i-2-clause-extends
returns-in_err-i-2-clause-extends c = Extends-trans (c.args.given.now ++ c.args.learnt.now) c.args.trail.now
    c.loop-trail.trail c.step.new.trail c.loop-trail.invariant.extends c.step.ensures.extends

pub returns-in-Some-2-clause-extends : goal.returns-in-Some-2-clause-extends
returns-in-Some-2-clause-extends c = Extends-trans (c.args.given.now ++ c.args.learnt.now) c.args.trail.now
    c.loop-trail.trail c.step.new.trail c.loop-trail.invariant.extends c.step.ensures.extends

pub loop-trail-preserved : goal.loop-trail-preserved
loop-trail-preserved c =
    let clauses = c.args.given.now ++ c.args.learnt.now in
    record {
      holds = c.in_ok-i-2.ensures.holds;
      extends = Extends-trans clauses c.args.trail.now c.loop-trail.trail c.step.new.trail
          c.loop-trail.invariant.extends c.step.ensures.extends;
      fresh = λ i there. true_still clauses c.loop-trail.trail c.step.new.trail c.step.ensures.extends
          (clause_at clauses i) (c.loop-trail.invariant.fresh i (rw c.step.ensures.fresh at there));
    }

pub returns-clause-answer : goal.returns-clause-answer
returns-clause-answer c =
    let clauses = c.args.given.now ++ c.args.learnt.now in
    let t = c.loop-trail.trail in
    let end : t.head ≡ length t.entries = omega (arith, c.loop-trail-test.false, c.known-2.ensures.passed) in (
      all_settled c.loop-trail.self.lists c.loop-trail.self.pairs.items c.loop-trail.self.fresh.items clauses t
          c.loop-trail.invariant.holds c.known-2.ensures end c.loop-trail.invariant.fresh,
      end,
    )
