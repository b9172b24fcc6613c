use Rattle.std.proofs.Common.{[], refl}
use Rattle.am_dual.proofs.Ending.{absence_ends, nothing_starts, start_spent}
use Rattle.am_dual.proofs.turns.Synthesis.start.Goals as goal

pub returns-in-Refuted : goal.returns-in-Refuted
returns-in-Refuted c =
    let p = c.args.p.now in
    let answer = rw (c.new-state.ensures, c.limit.ensures.value, c.in-Refuted.is) at c.in_ok-term.ensures.answer in
    rw c.new-trace.ensures (record {
      right = absence_ends p [] c.in-Refuted.log (nothing_starts p c.in-Refuted.log answer.0 answer.1);
      none = refl;
    })

pub returns-in-Spent : goal.returns-in-Spent
returns-in-Spent c =
    let answer = rw (c.new-state.ensures, c.limit.ensures.value, c.in-Spent.is) at c.in_ok-term.ensures.answer in
    let enough = rw (c.limit.ensures.value, c.in-Spent.is) at c.in_ok-term.ensures.enough in
    rw (c.spent.ensures, c.new-trace.ensures) (record {
      right = start_spent c.args.p.now c.in-Spent.log answer (λ h. enough h tt);
      none = refl;
    })
