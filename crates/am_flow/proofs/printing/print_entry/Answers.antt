use Rattle.std.proofs.Common.{◌∷◌, ap, flat_map, subst, sym, ◌∙◌}
use Rattle.am_syntax.specs.Canonical.{Appends}
use Rattle.am_flow.specs.Texts.{entry_text, value_text}
use Rattle.am_flow.proofs.TableTexts.{row_text-each}
use Rattle.am_flow.proofs.printing.print_entry.Goals as goal

pub returns-in-Some : goal.returns-in-Some
returns-in-Some c =
    subst (Appends c.print_values.result c.args.out.now c.print_values.new.out)
    (ap (flat_map (λ a. 32 ∷ value_text a)) c.as_slice.ensures ∙ sym (row_text-each c.in-Some.row)
    ∙ ap entry_text (sym c.in-Some.is))
    c.print_values.ensures
