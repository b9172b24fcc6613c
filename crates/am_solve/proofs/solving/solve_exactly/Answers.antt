use Rattle.std.proofs.Common.{arith, ◌≡◌, ◌∙◌, true, ap, length}
use Rattle.std.specs.Prelude.{None}
use Rattle.am_lit.specs.UnitRow.{IsSettled}
use Rattle.am_trail.specs.Trails.{literals}
use Rattle.am_solve.proofs.Answering.{rising_few, spent_answer, spent_conflict, spent_over}
use Rattle.am_solve.proofs.Branching.{first_all}
use Rattle.am_solve.proofs.Decisions.{none_of}
use Rattle.am_solve.proofs.Ready.{ready_kept}
use Rattle.am_solve.proofs.Valuing.{all_satisfied}
use Rattle.am_solve.proofs.solving.solve_exactly.Goals as goal

pub is_enough-over_base-requires : goal.is_enough-over_base-requires
is_enough-over_base-requires c =
    omega (arith, rising_few c.args.base.now c.args.formula.now.vars c.requires.rises c.requires.below)

pub returns-in_default-clause-answer : goal.returns-in_default-clause-answer
returns-in_default-clause-answer c =
    let f = c.args.formula.now in
    let row = literals c.descend.new.self.trail.entries in
    let none : c.in_ok-conflict.field-0 ≡ None = none_of c.in_ok-conflict.field-0 c.in_default.not-Some in
    let a = rw (none, c.descend.ensures.vars, c.loop-conflicts.invariant.vars) at c.in_ok-conflict.ensures.answer in (
      c.in_ok-assignment.ensures.len,
      all_satisfied row c.in_ok-assignment.assignment.values f.clauses f.vars c.in_ok-assignment.ensures.holds
          (first_all (IsSettled row) f.clauses c.descend.new.self.learnt a.0) f.normal a.1,
    )

pub restart-requires-clause-chooses : goal.restart-requires-clause-chooses
restart-requires-clause-chooses c =
    let s = c.learn_from.new.self in
    rw c.age.ensures.phases
    (ready_kept s.choice.order c.age.new.self.order s.choice.phases.items s.trail.vars s.trail.entries
    c.age.ensures.order c.in_ok-learn_from.ensures.chooses)

pub loop-conflicts-preserved : goal.loop-conflicts-preserved
loop-conflicts-preserved c =
    let i = c.loop-conflicts.invariant in
    let d = c.in_ok-conflict.ensures in
    let l = c.in_ok-learn_from.ensures in
    let r = c.restart.ensures in
    record {
      searches = r.searches;
      count = omega (arith, ap length r.learnt, l.longer, ap length d.learnt, i.count);
      vars = r.vars ∙ l.vars ∙ d.vars ∙ i.vars;
      chooses = r.chooses;
      keeps = λ on k.
          r.keeps c.preferred-first.result.now
          (l.keeps c.preferred-first.result.now on (d.keeps (rw i.vars k) (i.keeps on k)));
    }

pub returns-clause-answer : goal.returns-clause-answer
returns-clause-answer c =
    let i = c.loop-conflicts.invariant in
    let s = c.loop-conflicts.search in
    rw (← i.vars)
    (spent_answer c.args.formula.now.clauses s.learnt s.trail.vars s.log s.watch s.trail i.searches c.args.limit
    (omega (arith, i.count)))

pub returns-clause-enough : goal.returns-clause-enough
returns-clause-enough c = λ k enough _.
    let i = c.loop-conflicts.invariant in
    let s = c.loop-conflicts.search in
    let on : c.is_enough-over_base.result ≡ true = c.is_enough-over_base.ensures.1 enough in
    let is = c.preferred-first.ensures.base on in
    spent_over c.args.formula.now.clauses s.learnt s.trail.vars s.log s.watch s.trail i.searches
    c.new_clauses_are_few.ensures c.args.base.now c.args.limit c.requires.rises
    (rw is at (i.keeps on (rw is k))) (omega (arith, i.count)) enough

pub returns-clause-conflict : goal.returns-clause-conflict
returns-clause-conflict c = λ row u m _.
    let i = c.loop-conflicts.invariant in
    let s = c.loop-conflicts.search in
    let none =
    spent_conflict c.args.formula.now.clauses s.learnt s.trail.vars s.log s.watch s.trail i.searches row u m in
    omega (arith, i.count)

pub descend-requires-clause-below : goal.descend-requires-clause-below
descend-requires-clause-below c =
    rw c.loop-conflicts.invariant.vars (c.preferred-first.ensures.below c.args.formula.now.vars c.requires.below)
