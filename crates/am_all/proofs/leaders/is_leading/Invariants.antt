use Rattle.std.proofs.Common.{take}
use Rattle.std.specs.Prelude.{All}
use Rattle.am_all.specs.inside.Results.{IsResultInside}
use Rattle.am_all.proofs.leaders.is_leading.Given as goal

abbrev pub invariant-loop-leader : goal.invariant-loop-leader
invariant-loop-leader l = All (λ leader. IsResultInside l.sets leader l.numbers → IsResultInside l.sets l.numbers
    leader)
    (take l.leader-index l.leaders)
