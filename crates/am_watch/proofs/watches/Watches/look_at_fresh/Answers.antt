use Rattle.std.proofs.Common.{arith, ◌++◌}
use Rattle.am_watch.proofs.Extending.{Extends-trans}
use Rattle.am_watch.proofs.Sweeping.{true_more, true_cut, true_all}
use Rattle.am_watch.proofs.watches.Watches.look_at_fresh.Goals as goal

pub returns-in_err-look-clause-extends : goal.returns-in_err-look-clause-extends
returns-in_err-look-clause-extends c = Extends-trans (c.args.given.now ++ c.args.learnt.now) c.args.trail.now
    c.loop-k.trail c.look.new.trail c.loop-k.invariant.extends c.look.ensures.extends

pub loop-k-preserved-in-Stays : goal.loop-k-preserved-in-Stays
loop-k-preserved-in-Stays c =
    let clauses = c.args.given.now ++ c.args.learnt.now in
    let i = c.loop-k.invariant in
    let v = rw c.in-Stays.is at c.in_ok-look.ensures.looked in
    record {
      holds = c.in_ok-look.ensures.holds;
      extends = Extends-trans clauses c.args.trail.now c.loop-k.trail c.look.new.trail i.extends c.look.ensures.extends;
      done = true_more clauses c.loop-k.trail c.look.new.trail c.look.ensures.extends c.loop-k.self.fresh.items
          c.look.new.self.fresh.items c.loop-k.k v.0 i.done v.1;
    }

pub loop-k-preserved : goal.loop-k-preserved
loop-k-preserved c =
    let clauses = c.args.given.now ++ c.args.learnt.now in
    let i = c.loop-k.invariant in
    let v = rw c.in-Goes.is at c.in_ok-look.ensures.looked in
    record {
      holds = c.in_ok-look.ensures.holds;
      extends = Extends-trans clauses c.args.trail.now c.loop-k.trail c.look.new.trail i.extends c.look.ensures.extends;
      done = true_cut clauses c.loop-k.trail c.look.new.trail c.look.ensures.extends c.loop-k.self.fresh.items
          c.look.new.self.fresh.items c.loop-k.k v i.done;
    }

pub returns-in-Conflicts-clause-extends : goal.returns-in-Conflicts-clause-extends
returns-in-Conflicts-clause-extends c = Extends-trans (c.args.given.now ++ c.args.learnt.now) c.args.trail.now
    c.loop-k.trail c.look.new.trail c.loop-k.invariant.extends c.look.ensures.extends

pub returns-clause-looked : goal.returns-clause-looked
returns-clause-looked c = true_all (c.args.given.now ++ c.args.learnt.now) c.loop-k.self.fresh.items
    c.loop-k.trail.entries c.loop-k.k (omega (arith, c.loop-k-test.false, c.loop-k.self.fresh.ok.0))
    c.loop-k.invariant.done
