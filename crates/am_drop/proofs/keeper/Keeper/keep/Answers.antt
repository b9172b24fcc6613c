use Rattle.std.proofs.Common.{◌≡◌, length, arith}
use Rattle.am_drop.proofs.keeper.Keeper.keep.Goals as goal

pub returns-clause-answer : goal.returns-clause-answer
returns-clause-answer c =
    let selected = c.loop-place.invariant in
    let all : c.loop-place.place ≡ length c.args.self.now.neg.now =
    omega (arith, c.loop-place-test.false, c.loop-place.auto.place-end, c.len-place-end.ensures) in
    (rw all at selected.kept, selected.derivable, selected.suits)
