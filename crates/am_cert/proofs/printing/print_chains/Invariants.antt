use Rattle.std.proofs.Common.{◌≡◌, ◌++◌, flat_map, take}
use Rattle.am_syntax.specs.Canonical.{line}
use Rattle.am_cert.specs.Printing.{chain_row}
use Rattle.am_cert.proofs.printing.print_chains.Given as goal

abbrev pub invariant-chains : goal.invariant-chains
invariant-chains l = l.out ≡ l.initial.out ++ flat_map (λ c. line (chain_row c)) (take l.i l.log)
