use Rattle.std.proofs.Common.{decimal, get_or, ◌∷◌}
use Rattle.std.proofs.lemmas.List.{get_or_default}
use Rattle.am_syntax.proofs.Laws.{grew_item, handed_on}
use Rattle.am_flow.proofs.printing.print_others.Goals as goal

pub returns-in_err-print_further : goal.returns-in_err-print_further
returns-in_err-print_further c =
    let fields = c.args.fields.now in
    let i = c.fields.field-index in
    handed_on _ _ _ _ _ c.from_residual.ensures.1
    (grew_item (λ d. 44 ∷ decimal d) fields i (get_or fields i 0) _ c.fields.out _ c.fields-test.true
    (get_or_default fields i 0 (get_or fields i 0) c.fields-test.true) c.fields.invariant
    c.in_err-print_further.ensures)
