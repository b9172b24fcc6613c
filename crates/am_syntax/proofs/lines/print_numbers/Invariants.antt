use Rattle.std.proofs.Common.{◌≡◌, ◌∷◌, ◌++◌, decimal, flat_map, take}
use Rattle.am_syntax.proofs.lines.print_numbers.Given as goal

abbrev pub invariant-numbers : goal.invariant-numbers
invariant-numbers l = l.out ≡ l.initial.out ++ flat_map (λ n. 32 ∷ decimal n) (take l.n-index l.numbers)
