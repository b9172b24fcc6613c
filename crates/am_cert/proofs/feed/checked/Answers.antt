use Rattle.std.proofs.lemmas.Result.{err_from_is_err_and}
use Rattle.am_cert.specs.Checking.{IsInputOf}
use Rattle.am_cert.proofs.Verdicts.{unaccepted_verdict}
use Rattle.am_cert.proofs.feed.checked.Goals as goal

pub returns-in_err-check : goal.returns-in_err-check
returns-in_err-check c =
    let failed = err_from_is_err_and c.from_residual-in_err-check.result c.from_residual-in_err-check.ensures.1 in
    let input : IsInputOf c.args.text.now c.in_ok-c.c =
    record { short = c.requires; reads = c.in_ok-c.ensures.found } in
    let fail = c.in_err-check.field-0.0 in
    rw (failed.1, failed.2)
    (unaccepted_verdict c.args.text.now c.in_ok-c.c fail input c.in_err-check.ensures.rejected)

pub returns : goal.returns
returns c =
    let input : IsInputOf c.args.text.now c.in_ok-c.c =
    record { short = c.requires; reads = c.in_ok-c.ensures.found } in
    (c.in_ok-c.c, input, c.in_ok-check.ensures.accepted, c.in_ok-check.ensures.right)
