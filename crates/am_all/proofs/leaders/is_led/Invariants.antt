use Rattle.std.proofs.Common.{take}
use Rattle.std.specs.Prelude.{All}
use Rattle.am_all.specs.inside.Results.{IsBeyond}
use Rattle.am_all.proofs.leaders.is_led.Given as goal

abbrev pub invariant-loop-leader : goal.invariant-loop-leader
invariant-loop-leader l = All (λ leader. IsBeyond l.sets leader l.numbers) (take l.leader-index l.leaders)
