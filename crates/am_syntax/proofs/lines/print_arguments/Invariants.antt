use Rattle.std.proofs.Common.{◌≡◌, ◌∷◌, ◌++◌, flat_map, take}
use Rattle.am_syntax.specs.Canonical.{term_text}
use Rattle.am_syntax.specs.Spelling.{letter_code}
use Rattle.am_syntax.proofs.lines.print_arguments.Given as goal

abbrev pub invariant-terms : goal.invariant-terms
invariant-terms l =
    l.out ≡ l.initial.out ++ flat_map (λ t. 32 ∷ term_text (letter_code l.letter) t) (take l.term-index l.terms)
