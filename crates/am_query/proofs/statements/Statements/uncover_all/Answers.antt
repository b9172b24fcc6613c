use Rattle.std.proofs.Common.{◌≡◌, length, arith}
use Rattle.am_gate.proofs.Laws.{Grows-trans}
use Rattle.am_query.specs.Formulas.{uncovered}
use Rattle.am_query.proofs.Calls.{Follows-each_at, Follows-each_end}
use Rattle.am_query.proofs.statements.Statements.uncover_all.Goals as goal

pub loop-e-preserved : goal.loop-e-preserved
loop-e-preserved c =
    let inv = c.loop-e.invariant in
    let stated = c.in_ok-uncover.ensures in
    record {
      follows = λ end h. inv.follows end
          (Follows-each_at (uncovered c.args.self.now) c.loop-e.e-index c.e-item.result c.args.neg.now
          c.loop-e-test.true c.e-item.is stated.follows h);
      grows = Grows-trans _ inv.grows stated.grows (omega arith);
    }

pub returns : goal.returns
returns c =
    let inv = c.loop-e.invariant in
    let done : c.loop-e.e-index ≡ length c.args.neg.now =
    omega (arith, c.loop-e-test.false, c.loop-e.auto.e-index-end) in
    record {
      follows =
          inv.follows c.loop-e.circuit
          (Follows-each_end (uncovered c.args.self.now) c.loop-e.e-index c.args.neg.now c.loop-e-test.false);
      given = tt;
      grows = rw done at inv.grows;
    }
