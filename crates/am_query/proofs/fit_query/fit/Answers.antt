use Rattle.std.proofs.Common.{◌≡◌, true, subst, arith}
use Rattle.am_lit.specs.Truth.{Satisfies, value_at}
use Rattle.am_query.specs.inside.Solved.{IsSolved}
use Rattle.am_query.specs.Formulas.{query_circuit}
use Rattle.am_query.specs.QueryLaws.{AreExamples}
use Rattle.am_query.specs.Witnesses.{chosen_terms}
use Rattle.am_query.specs.declared.query.Query.TheVariants.{Fit}
use Rattle.am_query.proofs.Answering.{refuted_by, spent_by}
use Rattle.am_query.proofs.Fitting.{fit_found, fits_are_chosen, unsatisfied_fit_has_none}
use Rattle.am_query.proofs.fit_query.fit.Goals as goal

pub decode-requires : goal.decode-requires
decode-requires c =
    let formula = c.in_ok-stated.stated.formula in
    let sat = subst (IsSolved formula c.args.limit) c.in-Found.is c.in_ok-assignment.ensures.answer in
    omega (arith, sat.0, c.in_ok-stated.ensures.selectors)

pub terms_of-requires : goal.terms_of-requires
terms_of-requires c =
    let p = c.args.p.now in
    let pos = c.args.pos.now in
    let neg = c.args.neg.now in
    let v = value_at c.in-Found.assignment.values in
    let formula = c.in_ok-stated.stated.formula in
    let sat = subst (IsSolved formula c.args.limit) c.in-Found.is c.in_ok-assignment.ensures.answer in
    let satisfied : Satisfies v (query_circuit true p (Fit pos neg)).clauses =
    rw c.in_ok-stated.ensures.stated.clauses at sat.1 in
    let examples = c.requires.examples in
    let chosen =
    fit_found p c.keeps_limits.ensures.formed pos neg examples.positives examples.negatives true v satisfied in
    rw (
      c.grammar.ensures.rules,
      c.grammar.ensures.starts,
      c.grammar.ensures.depth,
      c.in_ok-trees-in-Found.ensures.trees,
      c.in_ok-stated.ensures.template,
    )
    chosen.serves.derived

pub returns-in-Found-clause-answer : goal.returns-in-Found-clause-answer
returns-in-Found-clause-answer c =
    let p = c.args.p.now in
    let v = value_at c.in-Found.assignment.values in
    let formula = c.in_ok-stated.stated.formula in
    let sat = subst (IsSolved formula c.args.limit) c.in-Found.is c.in_ok-assignment.ensures.answer in
    let satisfied : Satisfies v (query_circuit true p (Fit c.args.pos.now c.args.neg.now)).clauses =
    rw c.in_ok-stated.ensures.stated.clauses at sat.1 in
    let examples : AreExamples p c.args.pos.now c.args.neg.now = record {
      formed = c.keeps_limits.ensures.formed;
      positives_stored = c.requires.examples.positives;
      negatives_stored = c.requires.examples.negatives;
    } in
    let term : c.in_ok-term-in-Found.term ≡ chosen_terms p v =
    rw (
      c.grammar.ensures.rules,
      c.grammar.ensures.starts,
      c.in_ok-trees-in-Found.ensures.trees,
      c.in_ok-stated.ensures.template,
    ) at c.in_ok-term-in-Found.ensures in
    rw term (fits_are_chosen true p c.args.pos.now c.args.neg.now examples v satisfied)

pub returns-in-Refuted-clause-answer : goal.returns-in-Refuted-clause-answer
returns-in-Refuted-clause-answer c =
    let p = c.args.p.now in
    let q = Fit c.args.pos.now c.args.neg.now in
    let log = c.in-Refuted.log in
    let refuted = refuted_by p q c.in_ok-stated.stated c.in_ok-stated.ensures.stated c.args.limit log
    (rw c.in-Refuted.is at c.in_ok-assignment.ensures.answer) in
    let examples : AreExamples p c.args.pos.now c.args.neg.now = record {
      formed = c.keeps_limits.ensures.formed;
      positives_stored = c.requires.examples.positives;
      negatives_stored = c.requires.examples.negatives;
    } in (
      unsatisfied_fit_has_none true p c.args.pos.now c.args.neg.now examples
          (c.refutations_are_sound.ensures (query_circuit true p q).clauses log refuted.refutes),
      refuted,
    )

pub returns-clause-answer : goal.returns-clause-answer
returns-clause-answer c =
    let q = Fit c.args.pos.now c.args.neg.now in
    spent_by c.args.p.now q c.in_ok-stated.stated c.in_ok-stated.ensures.stated c.args.limit c.in-Spent.log
    (rw c.in-Spent.is at c.in_ok-assignment.ensures.answer)
