use Rattle.am_query.specs.Acceptance.{IsExcluded}
use Rattle.am_query.specs.declared.fault.Fault.TheVariants.{NegativeFalse}
use Rattle.am_cert.proofs.TestedItems.{bad_fails, good_more, good_passes, untrue}
use Rattle.am_cert.proofs.conditions.negatives_true.Goals as goal

pub returns-then-not-is_excluded : goal.returns-then-not-is_excluded
returns-then-not-is_excluded c =
    let whole = c.as_slice-e-items.ensures in
    bad_fails (IsExcluded c.args.p.now c.args.terms.now) c.args.negatives.now c.loop-i.i c.loop-i.invariant
    c.e-item.result (rw whole at c.loop-i-test.true) (rw whole at c.e-item.is) NegativeFalse
    (untrue c.is_excluded.result c.is_excluded.ensures c.if-not-is_excluded.true)

pub loop-i-preserved : goal.loop-i-preserved
loop-i-preserved c =
    let whole = c.as_slice-e-items.ensures in
    good_more (IsExcluded c.args.p.now c.args.terms.now) c.args.negatives.now c.loop-i.i c.loop-i.invariant
    c.e-item.result (rw whole at c.loop-i-test.true) (rw whole at c.e-item.is)
    (c.is_excluded.ensures.0 c.if-not-is_excluded.false)

pub returns : goal.returns
returns c =
    let whole = c.as_slice-e-items.ensures in
    good_passes (IsExcluded c.args.p.now c.args.terms.now) c.args.negatives.now c.loop-i.i c.loop-i.invariant
    NegativeFalse (rw whole at c.loop-i-test.false)
