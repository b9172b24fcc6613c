use Rattle.std.proofs.Common.{List, Err, ap, sym, ◌∙◌}
use Rattle.std.proofs.lemmas.Result.{err_from_is_err_and}
use Rattle.am_chain.specs.declared.chain.Step.{Step}
use Rattle.am_syntax.specs.Pieces.{MovesOn, is_number_next, repeat}
use Rattle.am_syntax.specs.Readers.{Reader}
use Rattle.am_syntax.proofs.Laws.{makes_refused, moves_on, so_far_done, so_far_fails, so_far_more}
use Rattle.am_cert.specs.Grammar.{step}
use Rattle.am_cert.proofs.ChainLaws.{step_law, step_moves}
use Rattle.am_cert.proofs.chains.read_steps.Goals as goal

abbrev reads : List Step → Reader Step
reads _ = step.read

moves : MovesOn reads
moves = moves_on step_law step_moves

pub returns-in_err-read_step : goal.returns-in_err-read_step
returns-in_err-read_step c =
    let p = err_from_is_err_and c.from_residual.result c.from_residual.ensures.1 in
    let cause = c.in_err-read_step.field-0.0 in
    let left = c.read_step.new.text in
    makes_refused (λ xs. xs) c.args.text.now left (repeat is_number_next (λ _. step)).read cause c.from_residual.result
    (p.1 ∙ ap Err p.2)
    (so_far_fails is_number_next reads moves c.steps.steps c.steps.text (cause, left) _
    (sym c.is_number_next.ensures ∙ c.steps-test.true) c.in_err-read_step.ensures c.steps.invariant)

pub steps-smaller : goal.steps-smaller
steps-smaller c =
    moves c.steps.steps c.steps.text c.in_ok-read_step.field-0 c.read_step.new.text c.in_ok-read_step.ensures

pub steps-preserved : goal.steps-preserved
steps-preserved c =
    rw c.in_ok-push.ensures.ok
    (so_far_more is_number_next reads moves c.steps.steps c.steps.text c.in_ok-read_step.field-0 c.read_step.new.text _
    (sym c.is_number_next.ensures ∙ c.steps-test.true) c.in_ok-read_step.ensures c.steps.invariant)

pub returns : goal.returns
returns c =
    so_far_done is_number_next reads moves c.steps.steps c.steps.text _
    (sym c.is_number_next.ensures ∙ c.steps-test.false)
    c.steps.invariant
