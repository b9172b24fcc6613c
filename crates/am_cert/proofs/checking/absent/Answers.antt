use Rattle.std.proofs.Common.{Err, Ok, [], subst}
use Rattle.std.proofs.lemmas.Result.{err_from_is_err_and}
use Rattle.am_query.specs.Formulas.{query_circuit}
use Rattle.am_query.specs.Turns.{after_trace}
use Rattle.am_query.specs.declared.query.Query.TheVariants.{Fit}
use Rattle.am_query.specs.declared.state.State.{State}
use Rattle.am_cert.specs.Versions.{folds}
use Rattle.am_cert.specs.inside.Verdicts.{IsVerdictOf, first_refuted}
use Rattle.am_cert.proofs.Verdicts.{first_failed, first_passed, positives_here}
use Rattle.am_cert.proofs.checking.absent.Goals as goal

pub returns-in_err-positives_true : goal.returns-in_err-positives_true
returns-in_err-positives_true c =
    let r = c.from_residual-in_err-positives_true.result in
    let failed = err_from_is_err_and r c.from_residual-in_err-positives_true.ensures.1 in
    let fail = c.in_err-positives_true.field-0.0 in
    let positives = positives_here c.problem-p.result.now c.args.c.now.problem c.problem-p.ensures
    c.in_ok-positives.field-0 (after_trace c.args.trace.now) c.in_ok-positives.ensures (Err fail)
    c.in_err-positives_true.ensures in
    first_failed _ _ r fail failed.0 failed.1 failed.2 positives

pub returns : goal.returns
returns c =
    let p = c.args.c.now.problem in
    let r = c.fit_refuted.result in
    let log = c.args.log.now in
    let formula = λ (s : State). query_circuit (folds c.args.c.now.version) p (Fit s.positives []) in
    let positives = positives_here c.problem-p.result.now p c.problem-p.ensures c.in_ok-positives.field-0
    (after_trace c.args.trace.now) c.in_ok-positives.ensures (Ok tt) c.in_ok-positives_true.ensures in
    let proofs = c.args.c.now.proofs in
    let refutes =
    subst (λ (s : State). IsVerdictOf (first_refuted proofs log (formula s).vars (formula s).clauses) r)
    c.in_ok-positives.ensures c.fit_refuted.ensures in
    first_passed _ _ r positives refutes
