use Rattle.std.proofs.Common.{Err, Ok, subst}
use Rattle.std.proofs.lemmas.Result.{err_from_is_err_and}
use Rattle.am_problem.proofs.Laws.{derivable_terms_fit}
use Rattle.am_query.specs.Formulas.{query_circuit}
use Rattle.am_query.specs.Turns.{after_trace}
use Rattle.am_query.specs.declared.query.Query.TheVariants.{Precise}
use Rattle.am_query.specs.declared.state.State.{State}
use Rattle.am_cert.specs.Versions.{folds}
use Rattle.am_cert.specs.inside.Verdicts.{IsVerdictOf, second_refuted}
use Rattle.am_cert.proofs.Verdicts.{after_examples, after_positives, first_failed, first_passed, negatives_here}
use Rattle.am_cert.proofs.Verdicts.{positives_here, terms_here}
use Rattle.am_cert.proofs.checking.best.Goals as goal

pub returns-in_err-terms_inside : goal.returns-in_err-terms_inside
returns-in_err-terms_inside c =
    let r = c.from_residual.result in
    let failed = err_from_is_err_and r c.from_residual.ensures.1 in
    let fail = c.in_err-terms_inside.field-0.0 in
    let inside = terms_here c.problem-p.result.now c.args.c.now.problem c.problem-p.ensures c.args.terms.now (Err fail)
    c.in_err-terms_inside.ensures.verdict in
    first_failed _ _ r fail failed.0 failed.1 failed.2 inside

pub returns-in_err-positives_true : goal.returns-in_err-positives_true
returns-in_err-positives_true c =
    let q = c.problem-p.result.now in
    let p = c.args.c.now.problem in
    let same = c.problem-p.ensures in
    let s = c.in_ok-state.state in
    let e = after_trace c.args.trace.now in
    let after = c.in_ok-state.ensures in
    let r = c.from_residual-in_err-positives_true.result in
    let failed = err_from_is_err_and r c.from_residual-in_err-positives_true.ensures.1 in
    let fail = c.in_err-positives_true.field-0.0 in
    let inside = terms_here q p same c.args.terms.now (Ok tt) c.in_ok-terms_inside.ensures.verdict in
    let positives = positives_here q p same s e after (Err fail) c.in_err-positives_true.ensures in
    first_passed _ _ r inside (first_failed _ _ r fail failed.0 failed.1 failed.2 positives)

pub negatives_true-requires-clause-transformer : goal.negatives_true-requires-clause-transformer
negatives_true-requires-clause-transformer c =
    derivable_terms_fit c.problem-p.result.now c.keeps_limits.ensures.formed c.args.terms.now
    c.in_ok-terms_inside.ensures.transformer

pub returns-in_err-negatives_true : goal.returns-in_err-negatives_true
returns-in_err-negatives_true c =
    let q = c.problem-p.result.now in
    let p = c.args.c.now.problem in
    let same = c.problem-p.ensures in
    let t = c.args.terms.now in
    let s = c.in_ok-state.state in
    let e = after_trace c.args.trace.now in
    let after = c.in_ok-state.ensures in
    let r = c.from_residual-in_err-negatives_true.result in
    let failed = err_from_is_err_and r c.from_residual-in_err-negatives_true.ensures.1 in
    let fail = c.in_err-negatives_true.field-0.0 in
    let negatives = negatives_here q p same s e after t (Err fail) c.in_err-negatives_true.ensures in
    after_positives q p same s e after t _ r c.in_ok-terms_inside.ensures.verdict c.in_ok-positives_true.ensures
    (first_failed _ _ r fail failed.0 failed.1 failed.2 negatives)

pub returns-in_err-unsound_refuted : goal.returns-in_err-unsound_refuted
returns-in_err-unsound_refuted c =
    let r = c.from_residual-in_err-unsound_refuted.result in
    let failed = err_from_is_err_and r c.from_residual-in_err-unsound_refuted.ensures.1 in
    let fail = c.in_err-unsound_refuted.field-0.0 in
    after_examples c.problem-p.result.now c.args.c.now.problem c.problem-p.ensures c.in_ok-state.state
    (after_trace c.args.trace.now) c.in_ok-state.ensures c.args.terms.now _ r c.in_ok-terms_inside.ensures.verdict
    c.in_ok-positives_true.ensures c.in_ok-negatives_true.ensures
    (first_failed _ _ r fail failed.0 failed.1 failed.2 c.in_err-unsound_refuted.ensures)

pub returns : goal.returns
returns c =
    let p = c.args.c.now.problem in
    let t = c.args.terms.now in
    let e = after_trace c.args.trace.now in
    let after = c.in_ok-state.ensures in
    let r = c.closer_refuted.result in
    let log = c.args.best_log.now in
    let formula = λ (s : State). query_circuit (folds c.args.c.now.version) p (Precise t s.positives s.negatives) in
    let proofs = c.args.c.now.proofs in
    let closest =
    subst (λ (s : State). IsVerdictOf (second_refuted proofs log (formula s).vars (formula s).clauses) r) after
    c.closer_refuted.ensures in
    after_examples c.problem-p.result.now p c.problem-p.ensures c.in_ok-state.state e after t _ r
    c.in_ok-terms_inside.ensures.verdict c.in_ok-positives_true.ensures c.in_ok-negatives_true.ensures
    (first_passed _ _ r c.in_ok-unsound_refuted.ensures closest)
