use Rattle.std.proofs.Common.{[], ◌∷◌, codes, decimal}
use Rattle.am_syntax.proofs.Laws.{grew_first, grew_next, handed_on}
use Rattle.am_flow.proofs.printing.print_node.Goals as goal

pub returns-in_err-print_entry : goal.returns-in_err-print_entry
returns-in_err-print_entry c =
    handed_on _ _ _ _ _ c.from_residual-in_err-print_entry.ensures.1
    (grew_next (codes "node") c.in_ok-word.ensures.ok
    (grew_next (32 ∷ []) c.in_ok-space.ensures.ok
    (grew_next (decimal c.args.node) c.in_ok-number.ensures.ok (grew_first (10 ∷ []) c.in_err-print_entry.ensures))))
