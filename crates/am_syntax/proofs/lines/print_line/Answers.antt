use Rattle.std.proofs.Common.{rules, ◌++◌, ◌∷◌, [], flat_map, ap, ◌∙◌}
use Rattle.std.proofs.lemmas.List.{take_all}
use Rattle.am_syntax.specs.Canonical.{spaced_after}
use Rattle.am_syntax.specs.Lines.{entry_words}
use Rattle.am_syntax.proofs.Appending.{appending, grew_first, grew_item, grew_next, handed_on}
use Rattle.am_syntax.proofs.LineTexts.{line_text}
use Rattle.am_syntax.proofs.lines.print_line.Goals as goal

pub returns-in_err-print_entry : goal.returns-in_err-print_entry
returns-in_err-print_entry c =
    let grew =
    grew_item (λ e. spaced_after (entry_words e)) c.args.entries.now c.entries.entry-index c.entry-item.result
    _ c.entries.out _ c.entries-test.true c.entry-item.is c.entries.invariant c.in_err-print_entry.ensures in
    rw (line_text c.args.key.now c.args.entries.now c.requires.key c.requires.entries)
    (handed_on _ _ _ _ _ c.from_residual-in_err-print_entry.ensures.1
    (grew_next c.args.key.now c.in_ok-word.ensures.ok (grew_first (10 ∷ []) grew)))

pub returns : goal.returns
returns c =
    let all = take_all c.entries.entry-index c.args.entries.now c.entries-test.false in
    let wrote = c.entries.invariant ∙ ap (λ es. c.word.new.self ++ flat_map (λ e. spaced_after (entry_words e)) es) all
    in
    rw (line_text c.args.key.now c.args.entries.now c.requires.key c.requires.entries) (search (rules, appending))
