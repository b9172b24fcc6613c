use Rattle.std.proofs.Common.{◌≡◌, false, true}
use Rattle.std.specs.Prelude.{is_some}
use Rattle.am_query.proofs.Laws.{derivable}
use Rattle.am_cert.proofs.Given.{all_inside, term_given, term_outside}
use Rattle.am_cert.proofs.conditions.terms_inside.Goals as goal

pub returns-then-is_none-clause-verdict : goal.returns-then-is_none-clause-verdict
returns-then-is_none-clause-verdict c =
    let whole = c.as_slice-term-items.ensures in
    let grammar = c.grammar-grammar.ensures in
    let none : is_some c.in_ok-tree.tree ≡ false = rw c.if-is_none.true at c.is_none.ensures in
    term_outside c.args.p.now c.args.terms.now c.loop-i.i c.requires c.loop-i.invariant c.get-start.result.now
    c.term-item.result c.in_ok-tree.tree (rw whole at c.loop-i-test.true) (rw grammar.starts at c.get-start.ensures)
    (rw whole at c.term-item.is) (rw (grammar.rules, grammar.depth) at c.in_ok-tree.ensures) none

pub loop-i-preserved : goal.loop-i-preserved
loop-i-preserved c =
    let whole = c.as_slice-term-items.ensures in
    let grammar = c.grammar-grammar.ensures in
    let some : is_some c.in_ok-tree.tree ≡ true = rw c.if-is_none.false at c.is_none.ensures in
    term_given c.args.p.now c.args.terms.now c.loop-i.i c.requires c.loop-i.invariant c.get-start.result.now
    c.term-item.result c.in_ok-tree.tree (rw whole at c.loop-i-test.true) (rw grammar.starts at c.get-start.ensures)
    (rw whole at c.term-item.is) (rw (grammar.rules, grammar.depth) at c.in_ok-tree.ensures) some

pub returns-clause-verdict : goal.returns-clause-verdict
returns-clause-verdict c =
    let whole = c.as_slice-term-items.ensures in
    all_inside c.args.p.now c.args.terms.now c.loop-i.i c.requires c.loop-i.invariant (rw whole at c.loop-i-test.false)

pub returns-clause-transformer : goal.returns-clause-transformer
returns-clause-transformer c = derivable c.args.p.now c.args.terms.now (returns-clause-verdict c)
