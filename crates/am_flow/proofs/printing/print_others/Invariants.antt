use Rattle.std.proofs.Common.{◌≡◌, ◌∷◌, ◌++◌, decimal, flat_map, take}
use Rattle.am_flow.proofs.printing.print_others.Given as goal

abbrev pub invariant-fields : goal.invariant-fields
invariant-fields l = l.out ≡ l.initial.out ++ flat_map (λ c. 44 ∷ decimal c) (take l.field-index l.fields)
