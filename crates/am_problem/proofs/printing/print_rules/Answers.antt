use Rattle.std.proofs.Common.{◌++◌, ◌≤◌, length, map, ap, ◌∙◌, arith}
use Rattle.std.proofs.lemmas.List.{take_all}
use Rattle.am_syntax.specs.Canonical.{line, lines}
use Rattle.am_syntax.proofs.Laws.{grew_item, handed_on, wrote_item}
use Rattle.am_problem.specs.Printing.{rule_row}
use Rattle.am_problem.specs.Texts.{named}
use Rattle.am_problem.proofs.Printed.{row_at, rows_long}
use Rattle.am_problem.proofs.printing.print_rules.Goals as goal

pub returns-in_err-print_rule : goal.returns-in_err-print_rule
returns-in_err-print_rule c =
    let p = c.args.p.now in
    let at =
    row_at p c.requires.formed _ _ c.rules.i _ _ _ _ c.names-names.ensures
    (c.as_slice-productions-items.ensures ∙ c.grammar.ensures.rules) c.rules-test.true
    c.as_slice.ensures c.index-names-i.is c.as_slice-in-rules.ensures c.productions-item.is in
    handed_on _ _ _ _ _ c.from_residual.ensures.1
    (grew_item line (map rule_row (named p).rules) c.rules.i _ _ c.rules.out _ at.below at.at c.rules.invariant
    c.in_err-print_rule.ensures)

pub rules-preserved : goal.rules-preserved
rules-preserved c =
    let p = c.args.p.now in
    let at =
    row_at p c.requires.formed _ _ c.rules.i _ _ _ _ c.names-names.ensures
    (c.as_slice-productions-items.ensures ∙ c.grammar.ensures.rules) c.rules-test.true
    c.as_slice.ensures c.index-names-i.is c.as_slice-in-rules.ensures c.productions-item.is in
    wrote_item line (map rule_row (named p).rules) c.rules.i _ _ c.rules.out _ at.below at.at c.rules.invariant
    c.in_ok-print_rule.ensures

pub returns : goal.returns
returns c =
    let p = c.args.p.now in
    let rows = map rule_row (named p).rules in
    let same = rows_long p.names p.names p.rules c.requires.formed.names.each in
    let items = ap length (c.as_slice-productions-items.ensures ∙ c.grammar.ensures.rules) in
    let long : length rows ≤ c.rules.i = omega (arith, same, items, c.rules-test.false) in
    c.rules.invariant ∙ ap (λ rs. c.args.out.now ++ lines rs) (take_all c.rules.i rows long)
