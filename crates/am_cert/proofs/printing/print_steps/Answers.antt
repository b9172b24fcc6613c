use Rattle.std.proofs.Common.{◌∷◌, get_or}
use Rattle.std.proofs.lemmas.List.{get_or_default}
use Rattle.am_chain.specs.declared.chain.Step.{Step}
use Rattle.am_syntax.proofs.Laws.{grew_item, handed_on}
use Rattle.am_syntax.specs.Canonical.{spaced}
use Rattle.am_cert.specs.Printing.{step_words}
use Rattle.am_cert.proofs.printing.print_steps.Goals as goal

pub returns-in_err-print_step : goal.returns-in_err-print_step
returns-in_err-print_step c =
    let steps = c.args.steps.now in
    let i = c.steps.step-index in
    let none : Step = record { variable = 0; clause = 0 } in
    let step = get_or steps i none in
    handed_on _ _ _ _ _ c.from_residual.ensures.1
    (grew_item (λ x. 32 ∷ spaced (step_words x)) steps i step _ c.steps.out _ c.steps-test.true
    (get_or_default steps i none step c.steps-test.true) c.steps.invariant c.in_err-print_step.ensures)
