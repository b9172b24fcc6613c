use Rattle.std.proofs.Common.{Err, codes, ap, sym, ◌∙◌}
use Rattle.std.proofs.lemmas.Result.{err_from_is_err_and}
use Rattle.am_syntax.specs.Pieces.{next_is, repeat}
use Rattle.am_syntax.proofs.Laws.{makes_err, so_far_done, so_far_fails, so_far_more}
use Rattle.am_cert.specs.Grammar.{hint}
use Rattle.am_cert.proofs.HintLaws.{hint_reads, hints_move}
use Rattle.am_cert.proofs.hints.read_list.Goals as goal

pub returns-in_err-read_hint : goal.returns-in_err-read_hint
returns-in_err-read_hint c =
    let p = err_from_is_err_and c.from_residual.result c.from_residual.ensures.1 in
    let left = c.read_hint.new.text in
    makes_err (λ xs. xs) c.args.text.now left (repeat (next_is (codes "clause")) (λ _. hint)).read
    c.in_err-read_hint.field-0.0 c.from_residual.result (p.1 ∙ ap Err p.2) (λ cause is.
    so_far_fails (next_is (codes "clause")) hint_reads hints_move c.hints.hints c.hints.text (cause, left) _
    (sym c.is_next.ensures ∙ c.hints-test.true) (c.in_err-read_hint.ensures cause is) c.hints.invariant)

pub hints-smaller : goal.hints-smaller
hints-smaller c =
    hints_move c.hints.hints c.hints.text c.in_ok-read_hint.field-0 c.read_hint.new.text c.in_ok-read_hint.ensures

pub hints-preserved : goal.hints-preserved
hints-preserved c =
    rw c.in_ok-push.ensures.ok
    (so_far_more (next_is (codes "clause")) hint_reads hints_move c.hints.hints c.hints.text c.in_ok-read_hint.field-0
    c.read_hint.new.text _ (sym c.is_next.ensures ∙ c.hints-test.true) c.in_ok-read_hint.ensures c.hints.invariant)

pub returns : goal.returns
returns c =
    so_far_done (next_is (codes "clause")) hint_reads hints_move c.hints.hints c.hints.text _
    (sym c.is_next.ensures ∙ c.hints-test.false) c.hints.invariant
