use Rattle.std.proofs.Common.{refl, ◌+◌}
use Rattle.std.specs.Prelude.{None}
use Rattle.am_trail.specs.declared.entry.Entry.{Entry}
use Rattle.am_solve.proofs.Branching.{keeps_decide}
use Rattle.am_solve.proofs.search.Search.branch.Goals as goal

pub returns-in-Some-clause-keeps : goal.returns-in-Some-clause-keeps
returns-in-Some-clause-keeps c = λ d k.
    let s = c.args.self.now in
    let e : Entry = record { literal = c.in-Some.l; level = s.trail.level + 1; reason = None } in
    rw (c.decide.ensures.learnt, c.decide.ensures.trail)
    (keeps_decide c.args.given.now s.learnt s.trail c.args.first.now c.in-Some.l e c.known.ensures c.requires.settled
    c.in-Some.ensures.some refl d k)

pub returns-in-Some-clause-chooses : goal.returns-in-Some-clause-chooses
returns-in-Some-clause-chooses c =
    let s = c.args.self.now in
    let e : Entry = record { literal = c.in-Some.l; level = s.trail.level + 1; reason = None } in
    rw (c.decide.ensures.choice, c.decide.ensures.trail) (c.in-Some.ensures.ready_some e refl)
