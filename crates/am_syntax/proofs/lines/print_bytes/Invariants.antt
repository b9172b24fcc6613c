use Rattle.std.proofs.Common.{◌≡◌, ◌∷◌, ◌++◌, decimal, flat_map, take}
use Rattle.am_syntax.proofs.lines.print_bytes.Given as goal

abbrev pub invariant-bytes : goal.invariant-bytes
invariant-bytes l = l.out ≡ l.initial.out ++ flat_map (λ b. 32 ∷ decimal b) (take l.b-index l.bytes)
