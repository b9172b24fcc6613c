use Rattle.std.proofs.Common.{inl, refl}
use Rattle.am_dual.proofs.Ending.{best_ends, precise_spent}
use Rattle.am_dual.proofs.Turning.{after_negative, compared, with_negative}
use Rattle.am_dual.proofs.turns.Synthesis.negative_turn.Goals as goal

pub precise-requires-clause-compared : goal.precise-requires-clause-compared
precise-requires-clause-compared c = compared c.args.p.now c.args.self c.requires.underway

pub go_on-requires : goal.go_on-requires
go_on-requires c =
    let p = c.args.p.now in
    let s = c.args.self in
    let e = c.in-Found.closer.example in
    let t = c.in-Found.closer.term in
    let pushed = rw c.copy.ensures at c.in_ok-push-in-Found.ensures.ok in
    let answer = rw c.in-Found.is at c.in_ok-best_log.ensures.answer in
    let suits = with_negative p t s.state.positives s.state.negatives e answer.suits answer.excludes in
    rw pushed (after_negative p s c.requires.underway e t c.requires.sound answer.admitted answer.derivable suits)

pub returns-in-Refuted : goal.returns-in-Refuted
returns-in-Refuted c =
    let answer = rw (c.limit.ensures.value, c.in-Refuted.is) at c.in_ok-best_log.ensures.answer in
    let ends = best_ends c.args.p.now c.args.self c.args.sound_log c.in-Refuted.best_log
    c.requires.underway c.requires.sound c.requires.refuted answer.0 answer.1 in
    (ends, inl refl)

pub returns-in-Spent : goal.returns-in-Spent
returns-in-Spent c =
    let answer = rw (c.limit.ensures.value, c.in-Spent.is) at c.in_ok-best_log.ensures.answer in
    let enough = rw (c.limit.ensures.value, c.in-Spent.is) at c.in_ok-best_log.ensures.enough in
    let ends = precise_spent c.args.p.now c.args.self c.in-Spent.log c.requires.underway c.requires.sound answer
    (λ h. enough h tt) in
    rw c.spent.ensures (ends, inl refl)
