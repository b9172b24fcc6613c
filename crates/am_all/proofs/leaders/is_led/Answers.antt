use Rattle.std.proofs.Common.{ℕ, List, subst}
use Rattle.std.proofs.lemmas.List.{take_all}
use Rattle.std.proofs.lemmas.List.Elements.{All-more}
use Rattle.am_all.specs.inside.Results.{IsBeyond}
use Rattle.am_all.proofs.leaders.is_led.Goals as goal

pub loop-leader-preserved : goal.loop-leader-preserved
loop-leader-preserved c =
    let Beyond : List ℕ → Type 0 = λ leader. IsBeyond c.args.sets.now leader c.args.numbers.now in
    All-more Beyond c.args.leaders.now c.loop-leader.leader-index c.leader-item.result c.loop-leader-test.true
    c.loop-leader.invariant
    (subst Beyond c.leader-item.is (rw c.as_slice.ensures at c.if-is_inside.ensures))

pub returns : goal.returns
returns c = rw (take_all c.loop-leader.leader-index c.args.leaders.now c.loop-leader-test.false) at
    c.loop-leader.invariant
