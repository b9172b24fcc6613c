use Rattle.std.proofs.Common.{subst, sym}
use Rattle.am_chain.specs.Replay.{Refutes}
use Rattle.am_query.specs.Formulas.{query_circuit}
use Rattle.am_query.specs.Queries.{AreCompared}
use Rattle.am_query.specs.declared.query.Query.TheVariants.{Precise}
use Rattle.am_query.specs.declared.state.State.{State}
use Rattle.am_cert.specs.Versions.{folds}
use Rattle.am_cert.specs.inside.Verdicts.{IsFormulaOf}
use Rattle.am_cert.proofs.Translations.{best_shown, has_best}
use Rattle.am_cert.proofs.translating.best_proofs.Goals as goal

pub unsound_formula-requires : goal.unsound_formula-requires
unsound_formula-requires c =
    (has_best c.args.c.now c.keeps_limits.ensures c.requires.chains c.requires.accepted c.args.terms.now
    c.args.trace.now
    c.args.sound_log.now c.args.best_log.now c.requires.outcome).transformer

pub closer_formula-requires : goal.closer_formula-requires
closer_formula-requires c =
    let d = c.args.c.now in
    let has = has_best d c.keeps_limits.ensures c.requires.chains c.requires.accepted c.args.terms.now c.args.trace.now
    c.args.sound_log.now c.args.best_log.now c.requires.outcome in
    subst (λ (s : State). AreCompared d.problem c.args.terms.now s.positives s.negatives) (sym c.in_ok-state.ensures)
    (record { transformer = has.transformer; stored = has.stored })

pub hints_of-requires-2-clause-refutes : goal.hints_of-requires-2-clause-refutes
hints_of-requires-2-clause-refutes c =
    let d = c.args.c.now in
    let has = has_best d c.keeps_limits.ensures c.requires.chains c.requires.accepted c.args.terms.now c.args.trace.now
    c.args.sound_log.now c.args.best_log.now c.requires.outcome in
    let closest =
    subst (λ (s : State).
    Refutes (query_circuit (folds d.version) d.problem (Precise c.args.terms.now s.positives s.negatives)).clauses
    c.args.best_log.now) (sym c.in_ok-state.ensures) has.closest in
    subst (λ clauses. Refutes clauses c.args.best_log.now) (sym c.in_ok-closer.ensures.clauses) closest

pub returns : goal.returns
returns c =
    let d = c.args.c.now in
    let has = has_best d c.keeps_limits.ensures c.requires.chains c.requires.accepted c.args.terms.now c.args.trace.now
    c.args.sound_log.now c.args.best_log.now c.requires.outcome in
    let closer = c.in_ok-closer.closer in
    let formula =
    subst (λ (s : State). IsFormulaOf d (Precise c.args.terms.now s.positives s.negatives) closer) c.in_ok-state.ensures
    c.in_ok-closer.ensures in
    best_shown d c.in_ok-first.first c.in_ok-second.second c.args.terms.now c.args.trace.now c.args.sound_log.now
    c.args.best_log.now c.in_ok-unsound.unsound closer c.requires.outcome has.accepted c.in_ok-unsound.ensures formula
    c.in_ok-first.ensures.refute c.in_ok-second.ensures.refute c.in_ok-first.ensures.bounded
    c.in_ok-second.ensures.bounded
