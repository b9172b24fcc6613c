use Rattle.std.proofs.Common.{◌∷◌, decimal}
use Rattle.am_syntax.proofs.Laws.{appends_last, grew_first, handed_on}
use Rattle.am_cert.proofs.PrintedTexts.{step_text}
use Rattle.am_cert.proofs.printing.print_step.Goals as goal

pub returns-in_err-print_number : goal.returns-in_err-print_number
returns-in_err-print_number c =
    let step = c.args.step.now in
    rw (step_text step)
    (handed_on _ _ _ _ _ c.from_residual.ensures.1
    (grew_first (32 ∷ decimal step.clause) c.in_err-print_number.ensures))

pub returns : goal.returns
returns c =
    let step = c.args.step.now in
    rw (step_text step)
    (appends_last _ _ c.print_number.new.out _ (32 ∷ decimal step.variable) _ c.in_ok-print_number.ensures
    c.print_number-2.ensures)
