use Rattle.std.proofs.Common.{Err, ap, subst, ◌∙◌}
use Rattle.std.specs.Prelude.{All}
use Rattle.std.proofs.lemmas.List.{take_all}
use Rattle.std.proofs.lemmas.Result.{err_from_is_err_and}
use Rattle.amurth.specs.Checked.{IsProved}
use Rattle.amurth.specs.inside.Analyses.{IsFailureAmong}
use Rattle.amurth.proofs.AnalysisDues.{All-more, failure_among, if_err}
use Rattle.amurth.proofs.analysing.check_all.Goals as goal

pub returns-in_err-check_one-clause-rejected : goal.returns-in_err-check_one-clause-rejected
returns-in_err-check_one-clause-rejected c =
    let p = err_from_is_err_and c.from_residual.result c.from_residual.ensures.1 in
    let cs = c.args.certificates.now in
    let e = c.in_err-check_one.field-0.0 in
    if_err (IsFailureAmong cs) c.from_residual.result e (p.1 ∙ ap Err p.2)
    (failure_among cs c.certificates.i c.index-certificates-i.result e c.certificates-test.true
    c.index-certificates-i.is
    c.certificates.invariant c.in_err-check_one.ensures.rejected)

pub certificates-preserved : goal.certificates-preserved
certificates-preserved c =
    All-more IsProved c.args.certificates.now c.certificates.i c.index-certificates-i.result c.certificates-test.true
    c.index-certificates-i.is c.certificates.invariant c.in_ok-check_one.ensures.accepted

pub returns-clause-accepted : goal.returns-clause-accepted
returns-clause-accepted c =
    subst (All IsProved) (take_all c.certificates.i c.args.certificates.now c.certificates-test.false)
    c.certificates.invariant
