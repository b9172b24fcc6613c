use Rattle.std.proofs.Common.{◌≡◌, ◌++◌, flat_map, take}
use Rattle.am_syntax.specs.Canonical.{line}
use Rattle.am_cert.specs.Printing.{turn_row}
use Rattle.am_cert.proofs.printing.print_turns.Given as goal

abbrev pub invariant-turns : goal.invariant-turns
invariant-turns l = l.out ≡ l.initial.out ++ flat_map (λ t. line (turn_row t)) (take l.turn-index l.turns)
