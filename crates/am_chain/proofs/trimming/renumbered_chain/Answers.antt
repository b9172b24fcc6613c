use Rattle.std.proofs.Common.{◌≡◌, ◌<◌, ◌≤◌, [], ap, length, drop, map, refl, sym, ◌∙◌, append-nil, arith, get_or, inl}
use Rattle.std.proofs.Common.{inr}
use Rattle.std.specs.Prelude.{Contains}
use Rattle.am_chain.specs.declared.chain.Step.{Step}
use Rattle.std.proofs.lemmas.List.{at_drop_all, get_or_default}
use Rattle.am_chain.specs.Trimmed.{moved_step}
use Rattle.am_chain.specs.inside.Numbers.{renumbered}
use Rattle.am_chain.proofs.Needing.{map_more}
use Rattle.am_chain.proofs.trimming.renumbered_chain.Goals as goal

pub loop-step-preserved : goal.loop-step-preserved
loop-step-preserved c =
    let steps = c.args.chain.now.steps in
    let i = c.loop-step.step-index in
    let lt : i < length steps = omega (arith, ap length c.as_slice-step-items.ensures, c.loop-step-test.true) in
    map_more (moved_step (renumbered c.args.given c.args.before.now)) steps i (record { variable = 0; clause = 0 }) _
    c.loop-step.steps c.push.new.self lt c.in_ok-push.ensures.ok
    (rw (c.renumber.ensures, c.as_slice-step-items.ensures) refl) c.loop-step.invariant

pub returns : goal.returns
returns c =
    let steps = c.args.chain.now.steps in
    let r = renumbered c.args.given c.args.before.now in
    let done : length steps ≤ c.loop-step.step-index =
    omega (arith, ap length c.as_slice-step-items.ensures, c.loop-step-test.false) in
    let none : drop c.loop-step.step-index steps ≡ [] = at_drop_all (λ s. s) steps c.loop-step.step-index done in
    let whole : c.loop-step.steps ≡ map (moved_step r) steps =
    sym (append-nil c.loop-step.steps) ∙ (rw none at c.loop-step.invariant) in
    rw (c.renumber-first.ensures, whole) refl

pub renumber-first-requires-clause-in_range : goal.renumber-first-requires-clause-in_range
renumber-first-requires-clause-in_range c = c.requires.names c.args.chain.now.first (inl refl)

pub renumber-requires-clause-in_range : goal.renumber-requires-clause-in_range
renumber-requires-clause-in_range c =
    let steps = c.args.chain.now.steps in
    let i = c.loop-step.step-index in
    let d : Step = record { variable = 0; clause = 0 } in
    let step = get_or c.as_slice-step-items.result.now i d in
    let lt : i < length steps = omega (arith, ap length c.as_slice-step-items.ensures, c.loop-step-test.true) in
    let there : Contains steps step =
    (i, lt, get_or_default steps i step d lt ∙ sym (ap (λ s. get_or s i d) c.as_slice-step-items.ensures)) in
    c.requires.names step.clause (inr (step, there, refl))
