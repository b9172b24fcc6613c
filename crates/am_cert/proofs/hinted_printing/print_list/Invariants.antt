use Rattle.std.proofs.Common.{◌≡◌, ◌++◌, flat_map, take}
use Rattle.am_syntax.specs.Canonical.{line}
use Rattle.am_cert.specs.Printing.{hint_row}
use Rattle.am_cert.proofs.hinted_printing.print_list.Given as goal

abbrev pub invariant-hints : goal.invariant-hints
invariant-hints l = l.out ≡ l.initial.out ++ flat_map (λ h. line (hint_row h)) (take l.i l.hints)
