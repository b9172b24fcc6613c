use Rattle.std.proofs.Common.{◌≡◌, map, take}
use Rattle.am_all.proofs.cases.copied.Given as goal

abbrev pub invariant-loop-c : goal.invariant-loop-c
invariant-loop-c l = l.copy ≡ map (λ c. c.now) (take l.c-index l.words)
