use Rattle.std.proofs.Common.{◌++◌, flat_map, ap, ◌∙◌}
use Rattle.std.proofs.lemmas.List.{take_all}
use Rattle.am_syntax.proofs.Laws.{grew_item, handed_on}
use Rattle.am_syntax.specs.Canonical.{line}
use Rattle.am_cert.specs.Printing.{term_row}
use Rattle.am_cert.proofs.PrintedTexts.{each_line}
use Rattle.am_cert.proofs.printing.print_terms.Goals as goal

pub returns-in_err-print_term_line : goal.returns-in_err-print_term_line
returns-in_err-print_term_line c =
    let terms = c.args.terms.now in
    rw (each_line term_row terms)
    (handed_on _ _ _ _ _ c.from_residual.ensures.1
    (grew_item (λ t. line (term_row t)) terms c.terms.term-index c.term-item.result _ c.terms.out _ c.terms-test.true
    c.term-item.is c.terms.invariant c.in_err-print_term_line.ensures))

pub returns : goal.returns
returns c =
    let terms = c.args.terms.now in
    rw (each_line term_row terms)
    (c.terms.invariant ∙ ap (λ ts. c.args.out.now ++ flat_map (λ t. line (term_row t)) ts)
    (take_all c.terms.term-index terms c.terms-test.false))
