use Rattle.std.proofs.Common.{◌++◌, ap, arith, decimal, get_or, subst, sym, ◌∙◌}
use Rattle.am_syntax.proofs.Laws.{appends_last}
use Rattle.am_syntax.specs.Canonical.{Appends}
use Rattle.am_flow.specs.Texts.{value_text}
use Rattle.am_flow.proofs.TableTexts.{value_text-first}
use Rattle.am_flow.proofs.printing.print_value.Goals as goal

pub returns-in_ok-number-in-len1-up : goal.returns-in_ok-number-in-len1-up
returns-in_ok-number-in-len1-up c =
    let cs = c.as_slice.result.now in
    let out = c.args.out.now in
    subst (Appends c.print_others.result out c.print_others.new.out)
    (sym (value_text-first cs (omega (arith, c.in-len1-up.len_at_least))) ∙ ap value_text c.as_slice.ensures.value)
    (appends_last _ _ c.number.new.self _ (decimal (get_or cs 0 0)) _
    (c.in_ok-number-in-len1-up.ensures.ok ∙ ap (λ n. out ++ decimal n) c.from.ensures) c.print_others.ensures)
