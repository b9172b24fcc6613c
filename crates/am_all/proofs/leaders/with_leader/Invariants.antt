use Rattle.std.proofs.Common.{vec_len}
use Rattle.am_all.proofs.LeaderLaws.{AreSorted}
use Rattle.am_all.proofs.leaders.with_leader.Given as goal

abbrev pub invariant-loop-leader : goal.invariant-loop-leader
invariant-loop-leader l = AreSorted l.sets l.initial.rest.items l.fn.numbers l.rest.items l.joined.items

abbrev pub decreases-loop-leader : goal.decreases-loop-leader
decreases-loop-leader l = vec_len l.rest
