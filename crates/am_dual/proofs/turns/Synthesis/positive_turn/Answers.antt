use Rattle.std.proofs.Common.{inl, refl}
use Rattle.am_dual.proofs.Ending.{keep_spent, nothing_suits}
use Rattle.am_dual.proofs.Turning.{after_positive, fitted}
use Rattle.am_dual.proofs.turns.Synthesis.positive_turn.Goals as goal

pub keep-requires-clause-examples : goal.keep-requires-clause-examples
keep-requires-clause-examples c =
    let pushed = rw c.copy.ensures at c.in_ok-push.ensures.ok in
    rw pushed (fitted c.args.p.now c.args.self c.requires.underway c.args.example c.requires.uncovered.stored)

pub go_on-requires : goal.go_on-requires
go_on-requires c =
    let pushed = rw c.copy.ensures at c.in_ok-push.ensures.ok in
    let answer = rw (c.in-Kept.is, pushed) at c.in_ok-places.ensures.answer in
    rw (pushed, c.in_ok-state-in-Kept.ensures)
    (after_positive c.args.p.now c.args.self c.requires.underway c.args.example c.in-Kept.places c.in-Kept.next
    c.requires.uncovered answer.0 answer.1 answer.2)

pub absent-requires : goal.absent-requires
absent-requires c =
    let pushed = rw c.copy.ensures at c.in_ok-push.ensures.ok in
    let answer = rw (c.limit.ensures.value, c.in-Nothing.is, pushed) at c.in_ok-places.ensures.answer in
    rw c.new.ensures
    (nothing_suits c.args.p.now c.args.self c.args.example c.in-Nothing.log c.requires.underway c.requires.uncovered
    answer.0 answer.1)

pub returns-in-Spent : goal.returns-in-Spent
returns-in-Spent c =
    let pushed = rw c.copy.ensures at c.in_ok-push.ensures.ok in
    let answer = rw (c.limit.ensures.value, c.in-Spent.is, pushed) at c.in_ok-places.ensures.answer in
    let enough = rw (c.limit.ensures.value, c.in-Spent.is) at c.in_ok-places.ensures.enough in
    let ends = keep_spent c.args.p.now c.args.self c.in-Spent.log c.requires.underway c.args.example c.in-Spent.places
    c.requires.uncovered answer.0 answer.1 (λ h. enough h tt) in
    rw c.spent.ensures (ends, inl refl)
