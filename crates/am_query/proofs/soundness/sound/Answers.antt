use Rattle.std.proofs.Common.{true}
use Rattle.am_lit.specs.Truth.{Satisfies, value_at}
use Rattle.am_query.specs.Formulas.{query_circuit}
use Rattle.am_query.specs.declared.query.Query.TheVariants.{Sound}
use Rattle.am_query.proofs.Answering.{refuted_by, spent_by}
use Rattle.am_query.proofs.SoundAnswers.{read_example, refuted_is_sound}
use Rattle.am_query.proofs.soundness.sound.Goals as goal

pub returns-in-Found-clause-answer : goal.returns-in-Found-clause-answer
returns-in-Found-clause-answer c =
    let p = c.args.p.now in
    let t = c.args.t.now in
    let answer = rw c.in-Found.is at c.in_ok-a.ensures.answer in
    let v = value_at c.in-Found.a.values in
    let satisfied : Satisfies v (query_circuit true p (Sound t)).clauses =
    rw c.in_ok-stated.ensures.stated.clauses at answer.1 in
    read_example p c.keeps_limits.ensures.formed t c.requires.transformer v satisfied _
    c.in_ok-stated.inputs c.in_ok-stated.ensures.inputs
    c.positive_at.result c.positive_at.ensures.inputs c.positive_at.ensures.words

pub returns-in-Refuted-clause-answer : goal.returns-in-Refuted-clause-answer
returns-in-Refuted-clause-answer c =
    let p = c.args.p.now in
    let t = c.args.t.now in
    let log = c.in-Refuted.log in
    let refuted = refuted_by p (Sound t) c.in_ok-stated.stated c.in_ok-stated.ensures.stated c.args.limit log
    (rw c.in-Refuted.is at c.in_ok-a.ensures.answer) in (
      refuted_is_sound p c.keeps_limits.ensures.formed t c.requires.transformer c.refutations_are_sound.ensures
          c.args.limit log refuted,
      refuted,
    )

pub returns-clause-answer : goal.returns-clause-answer
returns-clause-answer c =
    spent_by c.args.p.now (Sound c.args.t.now) c.in_ok-stated.stated c.in_ok-stated.ensures.stated c.args.limit
    c.in-Spent.log (rw c.in-Spent.is at c.in_ok-a.ensures.answer)
