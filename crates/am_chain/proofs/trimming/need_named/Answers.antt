use Rattle.std.proofs.Common.{◌≡◌, ◌+◌, ◌<◌, ◌≤◌, ap, length, drop, [], arith}
use Rattle.std.proofs.lemmas.List.{drop_more, at_drop_all}
use Rattle.am_chain.proofs.Needing.{first_needed, step_needed, all_needed}
use Rattle.am_chain.proofs.trimming.need_named.Goals as goal

pub loop-step-init : goal.loop-step-init
loop-step-init c = first_needed c.args.given c.args.needed.now c.need.new.needed c.args.chain.now c.need.ensures

pub loop-step-preserved : goal.loop-step-preserved
loop-step-preserved c =
    let steps = c.args.chain.now.steps in
    let i = c.loop-step.step-index in
    let lt : i < length steps = omega (arith, ap length c.as_slice-step-items.ensures, c.loop-step-test.true) in
    let need = rw c.as_slice-step-items.ensures at c.need-in-loop-step.ensures in
    step_needed c.args.given c.args.needed.now c.loop-step.needed c.need-in-loop-step.new.needed c.args.chain.now
    (drop (i + 1) steps) _ (omega arith) need
    (rw (drop_more steps i (record { variable = 0; clause = 0 }) lt) at c.loop-step.invariant)

pub returns : goal.returns
returns c =
    let steps = c.args.chain.now.steps in
    let done : length steps ≤ c.loop-step.step-index =
    omega (arith, ap length c.as_slice-step-items.ensures, c.loop-step-test.false) in
    let none : drop c.loop-step.step-index steps ≡ [] = at_drop_all (λ s. s) steps c.loop-step.step-index done in
    all_needed c.args.given c.args.needed.now c.loop-step.needed c.args.chain.now (rw none at c.loop-step.invariant)
