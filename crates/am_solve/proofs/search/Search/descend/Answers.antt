use Rattle.std.proofs.Common.{arith, ◌≡◌, ◌∙◌, ◌++◌, refl, ap, length, length-append}
use Rattle.std.specs.Prelude.{None}
use Rattle.am_solve.proofs.Decisions.{none_of}
use Rattle.am_solve.proofs.Learning.{keeps_extends}
use Rattle.am_solve.proofs.Ready.{ready_more}
use Rattle.am_solve.proofs.search.Search.descend.Goals as goal

pub returns-in-Some-clause-keeps : goal.returns-in-Some-clause-keeps
returns-in-Some-clause-keeps c = λ d k.
    let s = c.loop-conflict.self in
    let p = c.propagate.ensures in
    rw (p.learnt, c.loop-conflict.invariant.learnt)
    (keeps_extends c.args.first.now c.args.self.now.learnt (c.args.formula.now.clauses ++ s.learnt) s.trail
    c.propagate.new.self.trail p.extends
    (rw c.loop-conflict.invariant.learnt at (c.loop-conflict.invariant.keeps d k)))

pub returns-then-not-branch-clause-answer : goal.returns-then-not-branch-clause-answer
returns-then-not-branch-clause-answer c =
    let b = c.if-not-branch.ensures in
    let none : c.in_ok-conflict.field-0 ≡ None = none_of c.in_ok-conflict.field-0 c.in_default.not-Some in
    let p = rw none at c.in_ok-conflict.ensures.answer in
    rw (b.learnt, b.stays refl) (p.0, b.total refl)

pub returns-then-not-branch-clause-keeps : goal.returns-then-not-branch-clause-keeps
returns-then-not-branch-clause-keeps c = λ d k.
    let s = c.loop-conflict.self in
    let i = c.loop-conflict.invariant in
    let p = c.propagate.ensures in
    c.branch-self.ensures.keeps (rw (p.vars, i.vars) d)
    (rw p.learnt
    (keeps_extends c.args.first.now s.learnt (c.args.formula.now.clauses ++ s.learnt) s.trail
    c.propagate.new.self.trail p.extends (i.keeps d k)))

pub loop-conflict-smaller : goal.loop-conflict-smaller
loop-conflict-smaller c =
    let p = c.propagate.ensures in
    let b = c.branch-self.ensures in
    omega (
      arith,
      c.if-not-branch.ensures.longer refl,
      b.room,
      b.vars,
      p.vars,
      ap length p.extends.begins,
      length-append c.loop-conflict.self.trail.entries p.extends.more,
    )

pub loop-conflict-preserved : goal.loop-conflict-preserved
loop-conflict-preserved c =
    let s = c.loop-conflict.self in
    let i = c.loop-conflict.invariant in
    let p = c.propagate.ensures in
    let b = c.branch-self.ensures in
    record {
      searches = b.searches;
      learnt = b.learnt ∙ p.learnt ∙ i.learnt;
      vars = b.vars ∙ p.vars ∙ i.vars;
      chooses = b.chooses;
      keeps = λ d k.
          b.keeps (rw (p.vars, i.vars) d)
          (rw p.learnt
          (keeps_extends c.args.first.now s.learnt (c.args.formula.now.clauses ++ s.learnt) s.trail
          c.propagate.new.self.trail p.extends (i.keeps d k)));
    }

pub returns-in-Some-clause-chooses : goal.returns-in-Some-clause-chooses
returns-in-Some-clause-chooses c =
    let s = c.loop-conflict.self in
    let p = c.propagate.ensures in
    rw (p.choice, p.vars, p.extends.begins)
    (ready_more s.choice.order s.choice.phases.items s.trail.vars s.trail.entries p.extends.more
    c.loop-conflict.invariant.chooses)

pub branch-self-requires-clause-chooses : goal.branch-self-requires-clause-chooses
branch-self-requires-clause-chooses c =
    let s = c.loop-conflict.self in
    let p = c.propagate.ensures in
    rw (p.choice, p.vars, p.extends.begins)
    (ready_more s.choice.order s.choice.phases.items s.trail.vars s.trail.entries p.extends.more
    c.loop-conflict.invariant.chooses)
