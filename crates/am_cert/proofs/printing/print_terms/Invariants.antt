use Rattle.std.proofs.Common.{◌≡◌, ◌++◌, flat_map, take}
use Rattle.am_syntax.specs.Canonical.{line}
use Rattle.am_cert.specs.Printing.{term_row}
use Rattle.am_cert.proofs.printing.print_terms.Given as goal

abbrev pub invariant-terms : goal.invariant-terms
invariant-terms l = l.out ≡ l.initial.out ++ flat_map (λ t. line (term_row t)) (take l.term-index l.terms)
