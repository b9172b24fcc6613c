use Rattle.std.proofs.Common.{ap, subst, sym, ◌∙◌}
use Rattle.am_syntax.specs.Canonical.{Appends, spaced_after}
use Rattle.am_syntax.specs.Lines.{IsLineEntry, entry_words}
use Rattle.am_syntax.specs.declared.lines.Entry.{Entry}
use Rattle.am_syntax.proofs.LineTexts.{after_number, after_numbers, after_term, after_terms}
use Rattle.am_syntax.proofs.lines.print_entry.Goals as goal

pub returns-in-Number : goal.returns-in-Number
returns-in-Number c =
    subst (Appends c.print_number.result c.args.out.now c.print_number.new.out)
    (sym (ap (λ (e : Entry). spaced_after (entry_words e)) c.in-Number.is ∙ after_number c.in-Number.n))
    c.print_number.ensures

pub returns-in-Numbers : goal.returns-in-Numbers
returns-in-Numbers c =
    subst (Appends c.print_numbers.result c.args.out.now c.print_numbers.new.out)
    (sym (ap (λ (e : Entry). spaced_after (entry_words e)) c.in-Numbers.is ∙ after_numbers c.in-Numbers.numbers.now))
    c.print_numbers.ensures

pub returns-in-Bytes : goal.returns-in-Bytes
returns-in-Bytes c =
    subst (Appends c.print_bytes.result c.args.out.now c.print_bytes.new.out)
    (sym (ap (λ (e : Entry). spaced_after (entry_words e)) c.in-Bytes.is ∙ after_numbers c.in-Bytes.bytes.now))
    c.print_bytes.ensures

pub returns-in-Term : goal.returns-in-Term
returns-in-Term c =
    subst (Appends c.print_argument.result c.args.out.now c.print_argument.new.out)
    (sym (ap (λ (e : Entry). spaced_after (entry_words e)) c.in-Term.is
    ∙ after_term c.in-Term.letter c.in-Term.term.now (subst IsLineEntry c.in-Term.is c.requires)))
    c.print_argument.ensures

pub returns-in-Terms : goal.returns-in-Terms
returns-in-Terms c =
    subst (Appends c.print_arguments.result c.args.out.now c.print_arguments.new.out)
    (sym (ap (λ (e : Entry). spaced_after (entry_words e)) c.in-Terms.is
    ∙ after_terms c.in-Terms.letter c.in-Terms.terms.now (subst IsLineEntry c.in-Terms.is c.requires)))
    c.print_arguments.ensures
