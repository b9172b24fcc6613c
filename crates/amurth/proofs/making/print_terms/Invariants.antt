use Rattle.std.proofs.Common.{◌≡◌, ◌++◌, map, take}
use Rattle.am_cert.specs.Printing.{term_row}
use Rattle.am_syntax.specs.Canonical.{lines}
use Rattle.amurth.proofs.making.print_terms.Given as goal

abbrev pub invariant-loop-term : goal.invariant-loop-term
invariant-loop-term l = l.out ≡ l.initial.out ++ lines (map term_row (take l.term-index l.terms))
