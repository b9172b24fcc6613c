use Rattle.std.proofs.Common.{◌≡◌, ◌∷◌, ◌++◌, flat_map, take}
use Rattle.am_problem.specs.Texts.{name_at}
use Rattle.am_problem.proofs.printing.print_names.Given as goal

abbrev pub invariant-symbols : goal.invariant-symbols
invariant-symbols l = l.out ≡ l.initial.out ++ flat_map (λ n. 32 ∷ name_at l.p.names n) (take l.n-index l.symbols)
