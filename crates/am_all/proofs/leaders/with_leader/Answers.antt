use Rattle.std.proofs.Common.{◌≡◌, length, arith}
use Rattle.std.proofs.lemmas.List.Elements.{All-contains}
use Rattle.am_all.specs.inside.Leaders.{IsResult}
use Rattle.am_all.proofs.LeaderLaws.{sorted-first, sorted-last, sorted-kept, sorted-dropped, sorted-joined}
use Rattle.am_all.proofs.leaders.with_leader.Goals as goal
use Rattle.am_all.proofs.leaders.with_leader.Goals.{In-Some}

pub loop-leader-init : goal.loop-leader-init
loop-leader-init c = rw c.new-joined.ensures.items (sorted-first c.args.sets.now c.args.leaders.items c.args.numbers)

-- the leader that is looked at is as long as the result, and its numbers have sets
leader-result : (c : In-Some) → IsResult (length c.args.numbers) (length c.args.sets.now) c.in-Some.leader
leader-result c =
    All-contains (IsResult (length c.args.numbers) (length c.args.sets.now)) c.args.leaders.items c.in-Some.leader
    c.requires.leaders
    (sorted-last c.args.sets.now c.args.leaders.items c.args.numbers c.loop-leader.rest.items c.pop.new.self.items
    c.loop-leader.joined.items c.in-Some.leader
    c.loop-leader.invariant c.in-Some.ensures.items)

pub is_inside-requires-clause-long : goal.is_inside-requires-clause-long
is_inside-requires-clause-long c =
    rw (c.as_slice-in-Some.ensures, c.as_slice.ensures)
    (leader-result (goal.at.is_inside-requires-clause-long c).In-Some).counted

pub is_inside-requires-clause-second : goal.is_inside-requires-clause-second
is_inside-requires-clause-second c =
    rw c.as_slice-in-Some.ensures (leader-result (goal.at.is_inside-requires-clause-second c).In-Some).inside

pub loop-leader-preserved : goal.loop-leader-preserved
loop-leader-preserved c =
    rw c.in_ok-push.ensures.items
    (sorted-kept c.args.sets.now c.args.leaders.items c.args.numbers c.loop-leader.rest.items c.pop.new.self.items
    c.loop-leader.joined.items c.in-Some.leader
    c.loop-leader.invariant c.in-Some.ensures.items)

pub loop-leader-preserved-then-is_inside : goal.loop-leader-preserved-then-is_inside
loop-leader-preserved-then-is_inside c =
    sorted-dropped c.args.sets.now c.args.leaders.items c.args.numbers c.loop-leader.rest.items c.pop.new.self.items
    c.loop-leader.joined.items c.in-Some.leader
    c.loop-leader.invariant c.in-Some.ensures.items
    (rw (c.as_slice.ensures, c.as_slice-in-Some.ensures) at c.if-is_inside.ensures)

pub returns : goal.returns
returns c =
    let none : length c.loop-leader.rest.items ≡ 0 =
    omega (arith, c.in_default.ensures.cases.0, c.loop-leader.rest.ok.0) in
    rw c.in_ok-push-2.ensures.items
    (sorted-joined c.args.sets.now c.args.leaders.items c.args.numbers c.loop-leader.rest.items
    c.loop-leader.joined.items c.loop-leader.invariant none)
