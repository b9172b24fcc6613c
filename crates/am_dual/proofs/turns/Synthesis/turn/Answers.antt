use Rattle.std.proofs.Common.{inl, refl}
use Rattle.am_dual.proofs.Ending.{sound_spent}
use Rattle.am_dual.proofs.turns.Synthesis.turn.Goals as goal

pub returns-in-Spent : goal.returns-in-Spent
returns-in-Spent c =
    let answer = rw (c.limit.ensures.value, c.in-Spent.is) at c.in_ok-log.ensures.answer in
    let enough = rw (c.limit.ensures.value, c.in-Spent.is) at c.in_ok-log.ensures.enough in
    let ends = sound_spent c.args.p.now c.args.self c.in-Spent.log c.requires answer (λ h. enough h tt) in
    rw c.spent.ensures (ends, inl refl)
