use Rattle.std.proofs.Common.{sym, ◌∙◌, subst}
use Rattle.am_query.specs.declared.outcome.Outcome.TheVariants.{Absent, Best}
use Rattle.am_cert.proofs.FittedOutcomes.{CanBeWritten, absent_stored, best_counted, best_stored}
use Rattle.am_cert.proofs.Verdicts.{own_verdict}
use Rattle.am_cert.proofs.checking.verdict.Goals as goal

pub best-requires-clause-counted : goal.best-requires-clause-counted
best-requires-clause-counted c =
    let is = c.keeps_limits.ensures in
    let best = c.in-Best in
    let good = subst (CanBeWritten c.args.c.now.problem is.problem) (sym c.outcome.ensures ∙ best.is) is.outcome in
    best_counted c.args.c.now.problem is.problem best.term best.trace best.sound_log best.best_log good

pub best-requires-clause-stored : goal.best-requires-clause-stored
best-requires-clause-stored c =
    let is = c.keeps_limits.ensures in
    let best = c.in-Best in
    let good = subst (CanBeWritten c.args.c.now.problem is.problem) (sym c.outcome.ensures ∙ best.is) is.outcome in
    best_stored c.args.c.now.problem is.problem best.term best.trace best.sound_log best.best_log good

pub absent-requires-clause-stored : goal.absent-requires-clause-stored
absent-requires-clause-stored c =
    let is = c.keeps_limits.ensures in
    let absent = c.in-Absent in
    let good = subst (CanBeWritten c.args.c.now.problem is.problem) (sym c.outcome.ensures ∙ absent.is) is.outcome in
    absent_stored c.args.c.now.problem is.problem absent.trace absent.log good

pub returns-in-Best-clause-verdict : goal.returns-in-Best-clause-verdict
returns-in-Best-clause-verdict c =
    let best = c.in-Best in
    own_verdict c.args.c.now (Best best.term best.trace best.sound_log best.best_log)
    (sym (sym c.outcome.ensures ∙ best.is)) c.best.result c.best.ensures

pub returns-in-Absent-clause-verdict : goal.returns-in-Absent-clause-verdict
returns-in-Absent-clause-verdict c =
    let absent = c.in-Absent in
    own_verdict c.args.c.now (Absent absent.trace absent.log) (sym (sym c.outcome.ensures ∙ absent.is)) c.absent.result
    c.absent.ensures
