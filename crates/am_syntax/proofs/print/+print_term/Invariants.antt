use Rattle.std.proofs.Common.{◌≡◌, ◌++◌, ◌∷◌, take, flat_map}
use Rattle.am_syntax.specs.Canonical.{term_text}
use Rattle.am_syntax.specs.Spelling.{letter_code}
use Rattle.am_syntax.proofs.print.+print_term.Given as goal

abbrev pub decreases-print_term : goal.decreases-print_term
decreases-print_term l = goal.size-print_term l

abbrev pub invariant-arguments : goal.invariant-arguments
invariant-arguments l =
    l.out ≡ l.initial.out ++ flat_map (λ t. 32 ∷ term_text (letter_code l.letter) t)
    (take l.argument-index l.argument-items)
