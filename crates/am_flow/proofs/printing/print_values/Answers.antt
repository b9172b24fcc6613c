use Rattle.std.proofs.Common.{◌∷◌}
use Rattle.am_syntax.proofs.Laws.{grew_item, handed_on}
use Rattle.am_flow.specs.Texts.{value_text}
use Rattle.am_flow.proofs.printing.print_values.Goals as goal

pub returns-in_err-print_spaced : goal.returns-in_err-print_spaced
returns-in_err-print_spaced c =
    handed_on _ _ _ _ _ c.from_residual.ensures.1
    (grew_item (λ a. 32 ∷ value_text a) c.args.values.now c.values.value-index c.value-item.result _ c.values.out _
    c.values-test.true c.value-item.is c.values.invariant c.in_err-print_spaced.ensures)
