use Rattle.std.proofs.Common.{◌≤◌, ◌++◌, ◌∷◌, [], inr, length, refl, arith}
use Rattle.am_dual.proofs.Ending.{absence_ends}
use Rattle.am_dual.proofs.turns.absent.Goals as goal

pub returns-then-len-turns : goal.returns-then-len-turns
returns-then-len-turns c =
    let p = c.args.p.now in
    let trace = c.args.trace ++ c.args.turn ∷ [] in
    let grown = c.in_ok-push.ensures.ok in
    let few : length c.push.new.self ≤ p.turns = omega arith in
    let ends = absence_ends p trace c.args.log (record {
      within = record { valid = c.requires.within.valid; few = rw grown at few };
      nothing = c.requires.nothing;
      refuted = c.requires.refuted;
    }) in
    rw grown (ends, inr (c.args.turn, refl))
