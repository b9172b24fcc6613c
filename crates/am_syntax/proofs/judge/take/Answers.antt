use Rattle.std.proofs.Common.{Err, ap, sym, ◌∙◌}
use Rattle.std.proofs.lemmas.Result.{err_from_is_err_and}
use Rattle.am_text.specs.Seen.{seen}
use Rattle.am_text.specs.Tokens.{Left}
use Rattle.am_syntax.proofs.Judging.{judged_end, judged_err, judged_ok}
use Rattle.am_syntax.proofs.Loops.{gives_err}
use Rattle.am_syntax.proofs.judge.take.Goals as goal

pub returns-in_default-clause-value : goal.returns-in_default-clause-value
returns-in_default-clause-value g c =
    judged_end (g.J.Judge.verdict c.args.judge.now) c.args.text.now
    (ap (λ (l : Left). l.tokens) (sym c.fork-behind.ensures) ∙ c.in_default.ensures.end)

pub returns-in_err-value-clause-value : goal.returns-in_err-value-clause-value
returns-in_err-value-clause-value g c =
    let p = err_from_is_err_and c.from_residual.result c.from_residual.ensures.1 in
    gives_err g.J.Judge.view c.args.text.now c.args.text.now _ c.in_err-value.field-0.0 c.from_residual.result
    (p.1 ∙ ap Err p.2)
    (judged_err (g.J.Judge.verdict c.args.judge.now) c.args.text.now (seen c.in-Some.token) c.next.new.self
    (sym c.fork-behind.ensures ∙ c.in-Some.ensures.token) c.in_err-value.field-0.0 c.in_err-value.ensures.verdict)

pub returns-clause-value : goal.returns-clause-value
returns-clause-value g c =
    judged_ok (g.J.Judge.verdict c.args.judge.now) c.args.text.now (seen c.in-Some.token) c.next.new.self
    (sym c.fork-behind.ensures ∙ c.in-Some.ensures.token) (g.J.Judge.view c.in_ok-value.value)
    c.in_ok-value.ensures.verdict
