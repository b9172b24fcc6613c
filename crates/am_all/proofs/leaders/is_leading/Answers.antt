use Rattle.std.proofs.Common.{ℕ, List, subst}
use Rattle.std.proofs.lemmas.List.{take_all}
use Rattle.std.proofs.lemmas.List.Elements.{All-more}
use Rattle.am_all.specs.inside.Results.{IsResultInside}
use Rattle.am_all.proofs.LeaderLaws.{inside-beyond}
use Rattle.am_all.proofs.leaders.is_leading.Goals as goal
use Rattle.am_all.proofs.leaders.is_leading.Goals.{else-is_inside-via-then-is_inside+else-not-is_inside}
use Rattle.am_all.proofs.leaders.is_leading.Goals.{else-is_inside-via-else-is_inside}

pub loop-leader-preserved : goal.loop-leader-preserved
loop-leader-preserved c =
    let sets = c.args.sets.now in
    let numbers = c.args.numbers.now in
    let Unled : List ℕ → Type 0 = λ leader. IsResultInside sets leader numbers → IsResultInside sets numbers leader in
    All-more Unled c.args.leaders.now c.loop-leader.leader-index c.leader-item.result c.loop-leader-test.true
    c.loop-leader.invariant
    (subst Unled c.leader-item.is (elim c.else-is_inside.branch [
      | else-is_inside-via-then-is_inside+else-not-is_inside w ↦
          λ inside. rw w.as_slice-then-is_inside.ensures at w.if-not-is_inside.ensures
      | else-is_inside-via-else-is_inside w ↦ λ inside. absurd
          (inside-beyond sets c.leader-item.result numbers inside (rw c.as_slice.ensures at w.if-is_inside.ensures))
    ]))

pub returns : goal.returns
returns c = record {
  cover = c.if-not-is_covering.ensures;
  unled = rw (take_all c.loop-leader.leader-index c.args.leaders.now c.loop-leader-test.false) at
      c.loop-leader.invariant;
}
