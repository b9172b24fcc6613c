use Rattle.std.proofs.Common.{◌∷◌}
use Rattle.am_syntax.specs.Canonical.{term_text}
use Rattle.am_syntax.specs.Spelling.{letter_code}
use Rattle.am_syntax.proofs.Appending.{grew_item, handed_on}
use Rattle.am_syntax.proofs.lines.print_arguments.Goals as goal

pub returns-in_err-print_argument : goal.returns-in_err-print_argument
returns-in_err-print_argument c =
    handed_on _ _ _ _ _ c.from_residual.ensures.1
    (grew_item (λ t. 32 ∷ term_text (letter_code c.args.letter) t) c.args.terms.now c.terms.term-index
    c.term-item.result
    _ c.terms.out _ c.terms-test.true c.term-item.is c.terms.invariant c.in_err-print_argument.ensures)
