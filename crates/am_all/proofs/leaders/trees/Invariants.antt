use Rattle.std.proofs.Common.{◌≡◌, map, take}
use Rattle.am_all.proofs.leaders.trees.Given as goal

abbrev pub invariant-loop-candidate : goal.invariant-loop-candidate
invariant-loop-candidate l = l.trees ≡ map (λ c. c.now.tree) (take l.candidate-index l.tuple)
