use Rattle.std.proofs.Common.{decimal, ◌∷◌, ◌∙◌}
use Rattle.std.proofs.lemmas.List.{get_or_default}
use Rattle.am_syntax.proofs.Appending.{grew_item, handed_on}
use Rattle.am_syntax.proofs.lines.print_bytes.Goals as goal

pub returns-in_err-print_number : goal.returns-in_err-print_number
returns-in_err-print_number c =
    let i = c.bytes.b-index in
    handed_on _ _ _ _ _ c.from_residual.ensures.1
    (grew_item (λ b. 32 ∷ decimal b) c.args.bytes.now i c.from.result _ c.bytes.out _ c.bytes-test.true
    (c.from.ensures ∙ get_or_default c.args.bytes.now i 0 c.from.result c.bytes-test.true)
    c.bytes.invariant c.in_err-print_number.ensures)
