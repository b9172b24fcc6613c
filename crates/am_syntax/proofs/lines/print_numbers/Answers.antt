use Rattle.std.proofs.Common.{decimal, ◌∷◌, ◌∙◌}
use Rattle.std.proofs.lemmas.List.{get_or_default}
use Rattle.am_syntax.proofs.Appending.{grew_item, handed_on}
use Rattle.am_syntax.proofs.lines.print_numbers.Goals as goal

pub returns-in_err-print_number : goal.returns-in_err-print_number
returns-in_err-print_number c =
    let i = c.numbers.n-index in
    handed_on _ _ _ _ _ c.from_residual.ensures.1
    (grew_item (λ n. 32 ∷ decimal n) c.args.numbers.now i c.from.result _ c.numbers.out _ c.numbers-test.true
    (c.from.ensures ∙ get_or_default c.args.numbers.now i 0 c.from.result c.numbers-test.true)
    c.numbers.invariant c.in_err-print_number.ensures)
