use Rattle.std.proofs.Common.{subst, sym}
use Rattle.std.proofs.lemmas.Result.{err_from_is_err_and}
use Rattle.amurth.specs.Run.{IsDueTo}
use Rattle.amurth.specs.declared.command.Command.{Command}
use Rattle.amurth.specs.declared.command.Command.TheVariants.{Analyse, Check, List as ListCommand, Synth, Translate}
use Rattle.amurth.proofs.Dues.{has_input, long_due, made_due, read_due}
use Rattle.amurth.proofs.answering.answer.Goals as goal

pub returns-in_err-read_all-in-Synth-clause-long : goal.returns-in_err-read_all-in-Synth-clause-long
returns-in_err-read_all-in-Synth-clause-long g c = λ long.
    let p = err_from_is_err_and c.from_residual.result c.from_residual.ensures.1 in
    long_due c.args.command (has_input c.in-Synth.is tt) _ _
    (c.in_err-read_all-in-Synth.ensures.long (cc (long, p.1, p.2)))

pub returns-in_err-read_all-in-Check-clause-long : goal.returns-in_err-read_all-in-Check-clause-long
returns-in_err-read_all-in-Check-clause-long g c = λ long.
    let p = err_from_is_err_and c.from_residual-in_err-read_all-in-Check.result
    c.from_residual-in_err-read_all-in-Check.ensures.1 in
    long_due c.args.command (has_input c.in-Check.is tt) _ _
    (c.in_err-read_all-in-Check.ensures.long (cc (long, p.1, p.2)))

pub returns-in_err-read_all-in-Translate-clause-long : goal.returns-in_err-read_all-in-Translate-clause-long
returns-in_err-read_all-in-Translate-clause-long g c = λ long.
    let p = err_from_is_err_and c.from_residual-in_err-read_all-in-Translate.result
    c.from_residual-in_err-read_all-in-Translate.ensures.1 in
    long_due c.args.command (has_input c.in-Translate.is tt) _ _
    (c.in_err-read_all-in-Translate.ensures.long (cc (long, p.1, p.2)))

pub returns-in_err-read_all-in-Analyse-clause-long : goal.returns-in_err-read_all-in-Analyse-clause-long
returns-in_err-read_all-in-Analyse-clause-long g c = λ long.
    let p = err_from_is_err_and c.from_residual-in_err-read_all-in-Analyse.result
    c.from_residual-in_err-read_all-in-Analyse.ensures.1 in
    long_due c.args.command (has_input c.in-Analyse.is tt) _ _
    (c.in_err-read_all-in-Analyse.ensures.long (cc (long, p.1, p.2)))

pub returns-in_err-read_all-in-List-clause-long : goal.returns-in_err-read_all-in-List-clause-long
returns-in_err-read_all-in-List-clause-long g c = λ long.
    let p = err_from_is_err_and c.from_residual-in_err-read_all-in-List.result
    c.from_residual-in_err-read_all-in-List.ensures.1 in
    long_due c.args.command (has_input c.in-List.is tt) _ _
    (c.in_err-read_all-in-List.ensures.long (cc (long, p.1, p.2)))

pub returns-in_ok-synthesised-in-Synth-clause-due : goal.returns-in_ok-synthesised-in-Synth-clause-due
returns-in_ok-synthesised-in-Synth-clause-due g c =
    let r = c.in_ok-synthesised-in-Synth.field-0 in
    subst (λ (d : Command). IsDueTo d (g.R.Source.left c.args.input.now) r.status r.text.items) (sym c.in-Synth.is)
    (read_due Synth tt (g.R.Source.left c.args.input.now) _ c.in_ok-read_all-in-Synth.ensures.whole r.status
    r.text.items
    (rw c.deref.ensures.value at c.in_ok-synthesised-in-Synth.ensures))

pub returns-in_ok-checked-in-Check-clause-due : goal.returns-in_ok-checked-in-Check-clause-due
returns-in_ok-checked-in-Check-clause-due g c =
    let r = c.in_ok-checked-in-Check.field-0 in
    subst (λ (d : Command). IsDueTo d (g.R.Source.left c.args.input.now) r.status r.text.items) (sym c.in-Check.is)
    (read_due Check tt (g.R.Source.left c.args.input.now) _ c.in_ok-read_all-in-Check.ensures.whole r.status
    r.text.items
    (rw c.deref-in-Check.ensures.value at c.in_ok-checked-in-Check.ensures))

pub returns-in_ok-translated-in-Translate-clause-due : goal.returns-in_ok-translated-in-Translate-clause-due
returns-in_ok-translated-in-Translate-clause-due g c =
    let r = c.in_ok-translated-in-Translate.field-0 in
    subst (λ (d : Command). IsDueTo d (g.R.Source.left c.args.input.now) r.status r.text.items) (sym c.in-Translate.is)
    (read_due Translate tt (g.R.Source.left c.args.input.now) _ c.in_ok-read_all-in-Translate.ensures.whole r.status
    r.text.items
    (rw c.deref-in-Translate.ensures.value at c.in_ok-translated-in-Translate.ensures))

pub returns-in_ok-analysed-in-Analyse-clause-due : goal.returns-in_ok-analysed-in-Analyse-clause-due
returns-in_ok-analysed-in-Analyse-clause-due g c =
    let r = c.in_ok-analysed-in-Analyse.field-0 in
    subst (λ (d : Command). IsDueTo d (g.R.Source.left c.args.input.now) r.status r.text.items) (sym c.in-Analyse.is)
    (read_due Analyse tt (g.R.Source.left c.args.input.now) _ c.in_ok-read_all-in-Analyse.ensures.whole r.status
    r.text.items
    (rw c.deref-in-Analyse.ensures.value at c.in_ok-analysed-in-Analyse.ensures))

pub returns-in_ok-listed-in-List-clause-due : goal.returns-in_ok-listed-in-List-clause-due
returns-in_ok-listed-in-List-clause-due g c =
    let r = c.in_ok-listed-in-List.field-0 in
    subst (λ (d : Command). IsDueTo d (g.R.Source.left c.args.input.now) r.status r.text.items) (sym c.in-List.is)
    (read_due ListCommand tt (g.R.Source.left c.args.input.now) _ c.in_ok-read_all-in-List.ensures.whole r.status
    r.text.items
    (rw c.deref-in-List.ensures.value at c.in_ok-listed-in-List.ensures))

pub returns-in_ok-made-in-Make-clause-due : goal.returns-in_ok-made-in-Make-clause-due
returns-in_ok-made-in-Make-clause-due g c =
    let r = c.in_ok-made-in-Make.field-0 in
    subst (λ (d : Command). IsDueTo d (g.R.Source.left c.args.input.now) r.status r.text.items) (sym c.in-Make.is)
    (made_due c.in-Make.number (g.R.Source.left c.args.input.now) r.status r.text.items c.in_ok-made-in-Make.ensures)
