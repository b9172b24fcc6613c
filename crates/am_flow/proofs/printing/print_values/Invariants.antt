use Rattle.std.proofs.Common.{◌≡◌, ◌∷◌, ◌++◌, flat_map, take}
use Rattle.am_flow.specs.Texts.{value_text}
use Rattle.am_flow.proofs.printing.print_values.Given as goal

abbrev pub invariant-values : goal.invariant-values
invariant-values l = l.out ≡ l.initial.out ++ flat_map (λ a. 32 ∷ value_text a) (take l.value-index l.values)
