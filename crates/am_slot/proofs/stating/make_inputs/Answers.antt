use Rattle.std.proofs.Common.{◌≡◌, suc, ◌+◌, ◌-◌, arith}
use Rattle.am_gate.proofs.Laws.{Grows-trans, Begins-trans, Follows-input}
use Rattle.am_slot.proofs.Told.{Follows-one_input, Follows-no_input}
use Rattle.am_slot.proofs.stating.make_inputs.Goals as goal

pub loop-preserved : goal.loop-preserved
loop-preserved c =
    let inv = c.loop.invariant in
    let step : c.args.count - c.loop.counter ≡ suc (c.args.count - (c.loop.counter + 1)) =
    omega (arith, c.loop-test.true) in
    record {
      place = omega (arith, c.loop-test.true);
      follows = λ end h. inv.follows end (rw step (Follows-one_input _ _ _ _ _ c.in_ok-input.ensures.ok.follows h));
      vars = omega (arith, (Follows-input c.in_ok-input.ensures.ok.follows).1, inv.vars);
      grows = Grows-trans _ inv.grows c.in_ok-input.ensures.ok.grows (omega arith);
      begins = Begins-trans inv.begins c.in_ok-input.ensures.begins;
    }

pub returns-clause-ok : goal.returns-clause-ok
returns-clause-ok c =
    let inv = c.loop.invariant in
    let none : c.args.count - c.loop.counter ≡ 0 = omega (arith, c.loop-test.false) in
    inv.follows _ (rw none (Follows-no_input c.loop.circuit))
