use Rattle.std.proofs.Common.{◌<◌, ◌++◌, ap, ◌+◌, length, rules, arith}
use Rattle.am_chain.specs.Chains.{IsChainFaultOf, clause_of}
use Rattle.am_chain.proofs.Replaying.{step_taken, step_faulty}
use Rattle.am_chain.proofs.checker.derive.Goals as goal

pub returns-in_err-take_step-clause-fault : goal.returns-in_err-take_step-clause-fault
returns-in_err-take_step-clause-fault c =
    let clauses = c.args.given.now ++ c.args.derived.now in
    let e = c.in_err-take_step.field-0.0 in
    let was = c.loop-step.invariant.so_far in
    let steps = c.args.chain.now.steps in
    let lt : c.loop-step.step-index < length steps =
    omega (arith, ap length c.as_slice-step-items.ensures, c.loop-step-test.true) in
    let fault : IsChainFaultOf (clause_of clauses c.args.chain.now) e =
    step_faulty clauses steps c.as_slice-step-items.result.now c.loop-step.step-index c.loop-step.place
    (record { variable = 0; clause = 0 }) was.0 (clause_of clauses c.args.chain.now) c.as_slice-step-items.ensures
    c.loop-step.invariant.place lt was.2 e (c.in_err-take_step.ensures.fault was.0 was.1) in
    search rules

pub loop-step-preserved : goal.loop-step-preserved
loop-step-preserved c =
    let clauses = c.args.given.now ++ c.args.derived.now in
    let was = c.loop-step.invariant.so_far in
    let next = c.in_ok-take_step.ensures.next was.0 was.1 in
    let steps = c.args.chain.now.steps in
    let lt : c.loop-step.step-index < length steps =
    omega (arith, ap length c.as_slice-step-items.ensures, c.loop-step-test.true) in
    record {
      place = ap (λ n. n + 1) c.loop-step.invariant.place;
      so_far = (
        next.0,
        next.2,
        step_taken clauses steps c.as_slice-step-items.result.now c.loop-step.step-index c.loop-step.place
            (record { variable = 0; clause = 0 }) was.0 (clause_of clauses c.args.chain.now)
            c.as_slice-step-items.ensures c.loop-step.invariant.place lt was.2 next.0 next.1,
      );
    }
