use Rattle.std.proofs.Common.{[], arith, subst, sym}
use Rattle.std.proofs.lemmas.List.Elements.{All-nil}
use Rattle.am_problem.specs.Examples.{IsNegative}
use Rattle.am_query.specs.Queries.{AreFitted}
use Rattle.am_query.specs.declared.query.Query.TheVariants.{Fit}
use Rattle.am_query.specs.declared.state.State.{State}
use Rattle.am_cert.specs.inside.Verdicts.{IsFormulaOf}
use Rattle.am_cert.proofs.Translations.{absent_shown, has_none}
use Rattle.am_cert.proofs.translating.absent_proofs.Goals as goal

pub fit_formula-requires : goal.fit_formula-requires
fit_formula-requires c =
    let d = c.args.c.now in
    let has = has_none d c.keeps_limits.ensures c.requires.chains c.requires.accepted c.args.trace.now c.args.log.now
    c.requires.outcome in
    let stored = has.stored in
    subst (λ (s : State). AreFitted d.problem s.positives []) (sym c.in_ok-state.ensures)
    (record {
      positives = stored.positives;
      negatives = All-nil (IsNegative d.problem);
      few = omega (arith, stored.few);
    })

pub returns : goal.returns
returns c =
    let d = c.args.c.now in
    let has = has_none d c.keeps_limits.ensures c.requires.chains c.requires.accepted c.args.trace.now c.args.log.now
    c.requires.outcome in
    let fit = c.in_ok-fit.fit in
    let formula =
    subst (λ (s : State). IsFormulaOf d (Fit s.positives []) fit) c.in_ok-state.ensures c.in_ok-fit.ensures in
    rw c.new-second.ensures
    (absent_shown d c.in_ok-first.first c.args.trace.now c.args.log.now fit c.requires.outcome has.accepted formula
    c.in_ok-first.ensures.refute c.in_ok-first.ensures.bounded)
