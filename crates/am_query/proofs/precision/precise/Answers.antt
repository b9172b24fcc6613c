use Rattle.std.proofs.Common.{◌≡◌, true}
use Rattle.am_lit.specs.Truth.{Satisfies, value_at}
use Rattle.am_query.specs.Formulas.{query_circuit}
use Rattle.am_query.specs.Witnesses.{chosen_terms}
use Rattle.am_query.specs.declared.query.Query.TheVariants.{Precise}
use Rattle.am_query.proofs.Answering.{refuted_by, spent_by}
use Rattle.am_query.proofs.PreciseAnswers.{chosen_derive, read_closer, refuted_has_none_closer}
use Rattle.am_query.proofs.precision.precise.Goals as goal

pub terms_of-requires : goal.terms_of-requires
terms_of-requires c =
    let p = c.args.p.now in
    let v = value_at c.in-Found.a.values in
    let answer = rw c.in-Found.is at c.in_ok-a.ensures.answer in
    let satisfied : Satisfies v (query_circuit true p (Precise c.args.t.now c.args.pos.now c.args.neg.now)).clauses =
    rw c.in_ok-stated.ensures.stated.clauses at answer.1 in
    rw (
      c.grammar.ensures.rules,
      c.grammar.ensures.starts,
      c.grammar.ensures.depth,
      c.in_ok-trees-in-Found.ensures.trees,
      c.in_ok-stated.ensures.template,
    )
    (chosen_derive p c.keeps_limits.ensures.formed c.args.t.now c.args.pos.now c.args.neg.now c.requires.compared v
    satisfied)

pub returns-in-Found-clause-answer : goal.returns-in-Found-clause-answer
returns-in-Found-clause-answer c =
    let p = c.args.p.now in
    let v = value_at c.in-Found.a.values in
    let answer = rw c.in-Found.is at c.in_ok-a.ensures.answer in
    let satisfied : Satisfies v (query_circuit true p (Precise c.args.t.now c.args.pos.now c.args.neg.now)).clauses =
    rw c.in_ok-stated.ensures.stated.clauses at answer.1 in
    let closer = read_closer p c.keeps_limits.ensures.formed c.args.t.now c.args.pos.now c.args.neg.now
    c.requires.compared v satisfied _
    c.in_ok-stated.inputs c.in_ok-stated.ensures.inputs c.negative_at-example.result
    c.negative_at-example.ensures.inputs c.negative_at-example.ensures.word in
    let terms : c.in_ok-term-in-Found.term ≡ chosen_terms p v =
    rw (
      c.grammar.ensures.rules,
      c.grammar.ensures.starts,
      c.in_ok-trees-in-Found.ensures.trees,
      c.in_ok-stated.ensures.template,
    ) at c.in_ok-term-in-Found.ensures in
    rw terms closer

pub returns-in-Refuted-clause-answer : goal.returns-in-Refuted-clause-answer
returns-in-Refuted-clause-answer c =
    let p = c.args.p.now in
    let q = Precise c.args.t.now c.args.pos.now c.args.neg.now in
    let log = c.in-Refuted.log in
    let refuted = refuted_by p q c.in_ok-stated.stated c.in_ok-stated.ensures.stated c.args.limit log
    (rw c.in-Refuted.is at c.in_ok-a.ensures.answer) in (
      refuted_has_none_closer p c.keeps_limits.ensures.formed c.args.t.now c.args.pos.now c.args.neg.now
          c.requires.compared c.refutations_are_sound.ensures c.args.limit log refuted,
      refuted,
    )

pub returns-clause-answer : goal.returns-clause-answer
returns-clause-answer c =
    let q = Precise c.args.t.now c.args.pos.now c.args.neg.now in
    spent_by c.args.p.now q c.in_ok-stated.stated c.in_ok-stated.ensures.stated c.args.limit c.in-Spent.log
    (rw c.in-Spent.is at c.in_ok-a.ensures.answer)
