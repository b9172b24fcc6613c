use Rattle.std.proofs.Common.{◌≡◌, map, replicate}
use Rattle.am_all.proofs.choices.repeated.Given as goal

abbrev pub invariant-loop : goal.invariant-loop
invariant-loop g l = map (λ list. list.now) l.lists ≡ replicate l.counter l.list
