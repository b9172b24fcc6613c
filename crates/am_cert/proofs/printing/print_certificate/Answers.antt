use Rattle.std.proofs.Common.{subst, sym}
use Rattle.am_syntax.proofs.Laws.{grew_first, handed_on}
use Rattle.am_cert.specs.inside.Printable.{IsPrintable}
use Rattle.am_cert.proofs.Fitting.{certificates_are_printable}
use Rattle.am_cert.proofs.PrintedTexts.{certificate_parts}
use Rattle.am_cert.proofs.printing.print_certificate.Goals as goal

pub print_proved-requires : goal.print_proved-requires
print_proved-requires c =
    subst IsPrintable (sym c.outcome.ensures) (certificates_are_printable c.args.c.now c.keeps_limits.ensures)

pub returns-in_err-print_version : goal.returns-in_err-print_version
returns-in_err-print_version c =
    let version = rw c.version.ensures at c.in_err-print_version.ensures in
    rw (certificate_parts c.args.c.now) (handed_on _ _ _ _ _ c.from_residual.ensures.1 (grew_first _ version))
