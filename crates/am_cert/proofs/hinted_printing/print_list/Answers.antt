use Rattle.std.proofs.Common.{◌++◌, ◌≤◌, flat_map, length, ap, arith, sym, ◌∙◌}
use Rattle.std.proofs.lemmas.List.{take_all}
use Rattle.std.proofs.lemmas.Option.{get_or_from_slice_get, slice_get_within}
use Rattle.am_syntax.proofs.Laws.{grew_item, handed_on, wrote_item}
use Rattle.am_syntax.specs.Canonical.{line}
use Rattle.am_cert.specs.Printing.{hint_row}
use Rattle.am_cert.proofs.PrintedTexts.{each_line}
use Rattle.am_cert.proofs.hinted_printing.print_list.Goals as goal

pub returns-in_err-print_hint : goal.returns-in_err-print_hint
returns-in_err-print_hint c =
    let hints = c.args.hints.now in
    let i = c.hints.i in
    let hint = c.get.result.now in
    rw (each_line hint_row hints)
    (handed_on _ _ _ _ _ c.from_residual.ensures.1
    (grew_item (λ x. line (hint_row x)) hints i hint _ c.hints.out _ (slice_get_within hints i hint c.get.ensures)
    (sym (get_or_from_slice_get hints i hint hint c.get.ensures)) c.hints.invariant c.in_err-print_hint.ensures))

pub hints-preserved : goal.hints-preserved
hints-preserved c =
    let hints = c.args.hints.now in
    let i = c.hints.i in
    let hint = c.get.result.now in
    wrote_item (λ x. line (hint_row x)) hints i hint _ c.hints.out _ (slice_get_within hints i hint c.get.ensures)
    (sym (get_or_from_slice_get hints i hint hint c.get.ensures)) c.hints.invariant c.in_ok-print_hint.ensures

pub returns : goal.returns
returns c =
    let hints = c.args.hints.now in
    let all : length hints ≤ c.hints.i = omega (arith, c.len-i-end.ensures, c.hints-test.false) in
    rw (each_line hint_row hints)
    (c.hints.invariant ∙ ap (λ xs. c.args.out.now ++ flat_map (λ x. line (hint_row x)) xs)
    (take_all c.hints.i hints all))
