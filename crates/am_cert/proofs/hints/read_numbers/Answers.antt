use Rattle.std.proofs.Common.{Err, ap, sym, ◌∙◌}
use Rattle.std.proofs.lemmas.Result.{err_from_is_err_and}
use Rattle.am_syntax.proofs.Laws.{makes_refused, so_far_done, so_far_fails, so_far_more}
use Rattle.am_syntax.specs.Pieces.{is_number_next}
use Rattle.am_cert.specs.Grammar.{numbers}
use Rattle.am_cert.proofs.HintLaws.{code_reads, codes_move}
use Rattle.am_cert.proofs.hints.read_numbers.Goals as goal

pub returns-in_err-take_code : goal.returns-in_err-take_code
returns-in_err-take_code c =
    let p = err_from_is_err_and c.from_residual.result c.from_residual.ensures.1 in
    let cause = c.in_err-take_code.field-0.0 in
    let left = c.take_code.new.text in
    makes_refused (λ xs. xs) c.args.text.now left numbers.read cause c.from_residual.result (p.1 ∙ ap Err p.2)
    (so_far_fails is_number_next code_reads codes_move c.numbers.numbers c.numbers.text (cause, left) _
    (sym c.is_number_next.ensures ∙ c.numbers-test.true) c.in_err-take_code.ensures c.numbers.invariant)

pub numbers-smaller : goal.numbers-smaller
numbers-smaller c =
    codes_move c.numbers.numbers c.numbers.text c.in_ok-take_code.field-0 c.take_code.new.text c.in_ok-take_code.ensures

pub numbers-preserved : goal.numbers-preserved
numbers-preserved c =
    rw c.in_ok-push.ensures.ok
    (so_far_more is_number_next code_reads codes_move c.numbers.numbers c.numbers.text c.in_ok-take_code.field-0
    c.take_code.new.text _ (sym c.is_number_next.ensures ∙ c.numbers-test.true) c.in_ok-take_code.ensures
    c.numbers.invariant)

pub returns : goal.returns
returns c =
    so_far_done is_number_next code_reads codes_move c.numbers.numbers c.numbers.text _
    (sym c.is_number_next.ensures ∙ c.numbers-test.false) c.numbers.invariant
