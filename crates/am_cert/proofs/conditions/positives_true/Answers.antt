use Rattle.am_domain.specs.Examples.{IsTrueExample}
use Rattle.am_problem.specs.Examples.{positive_of}
use Rattle.am_problem.specs.Problem.{Problem, question_of}
use Rattle.am_problem.specs.declared.examples.Positive.{Positive}
use Rattle.am_query.specs.declared.fault.Fault.TheVariants.{PositiveFalse}
use Rattle.am_cert.proofs.TestedItems.{bad_fails, good_more, good_passes, untrue}
use Rattle.am_cert.proofs.conditions.positives_true.Goals as goal

abbrev IsTrueHere : Problem → Positive → Type 0
IsTrueHere p e = IsTrueExample (question_of p) (positive_of p e)

pub returns-then-not-is_true : goal.returns-then-not-is_true
returns-then-not-is_true c =
    let whole = c.as_slice-e-items.ensures in
    bad_fails (IsTrueHere c.args.p.now) c.args.positives.now c.loop-i.i c.loop-i.invariant c.e-item.result
    (rw whole at c.loop-i-test.true) (rw whole at c.e-item.is) PositiveFalse
    (untrue c.is_true.result c.is_true.ensures c.if-not-is_true.true)

pub loop-i-preserved : goal.loop-i-preserved
loop-i-preserved c =
    let whole = c.as_slice-e-items.ensures in
    good_more (IsTrueHere c.args.p.now) c.args.positives.now c.loop-i.i c.loop-i.invariant c.e-item.result
    (rw whole at c.loop-i-test.true) (rw whole at c.e-item.is) (c.is_true.ensures.0 c.if-not-is_true.false)

pub returns : goal.returns
returns c =
    let whole = c.as_slice-e-items.ensures in
    good_passes (IsTrueHere c.args.p.now) c.args.positives.now c.loop-i.i c.loop-i.invariant PositiveFalse
    (rw whole at c.loop-i-test.false)
