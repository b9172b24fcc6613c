use Rattle.std.proofs.Common.{◌≡◌, ℕ, suc, ◌+◌, ◌-◌, [], ◌∷◌, length, length-append, get_or, subst, sym, ◌∙◌, ap, arith}
use Rattle.std.specs.Prelude.{Option, None, slice_index_or}
use Rattle.std.proofs.lemmas.List.{take_all, get_or_default}
use Rattle.am_tree.specs.Trees.{IsFound}
use Rattle.am_tree.specs.inside.Matched.{arguments_of, AreFound}
use Rattle.am_tree.proofs.Loops.{each-push}
use Rattle.am_tree.proofs.Matched.{arguments-Node, zip-more, table-whole}
use Rattle.am_tree.proofs.grammar.Grammar.+matching.Goals as goal

pub table-loop-productions-preserved : goal.table-loop-productions-preserved
table-loop-productions-preserved t c =
    let rules = c.args.self.now.rules in
    let d = c.args.depth in
    let i = c.loop-productions.productions-index in
    let tree = c.in_ok-first_tree.field-0 in
    let deep : suc (d - 1) ≡ d = omega (arith, c.if-depth-eq0.false) in
    let items = c.as_slice-productions-items.result.now in
    let at : slice_index_or rules i [] ≡ c.as_slice.result.now =
    sym
    (c.as_slice.ensures ∙ c.productions-item.is
    ∙ get_or_default items i c.productions-item.result [] c.loop-productions-test.true
    ∙ ap (λ rs. get_or rs i []) c.as_slice-productions-items.ensures) in
    let here : IsFound rules d i c.args.term.now tree =
    subst (λ (k : ℕ). IsFound rules k i c.args.term.now tree) deep
    (c.in_ok-first_tree.ensures rules (d - 1) i at
    (rw c.as_slice-in-loop-productions.ensures c.in_ok-below.ensures)) in
    record {
      len =
          ap length c.in_ok-push.ensures.ok ∙ length-append c.loop-productions.table (tree ∷ [])
          ∙ ap (λ k. k + 1) c.loop-productions.invariant.len;
      found =
          rw c.in_ok-push.ensures.ok
          (each-push (λ n (o : Option _). IsFound rules d n c.args.term.now o) c.loop-productions.table tree None i
          c.loop-productions.invariant.len c.loop-productions.invariant.found here);
    }

pub table-returns : goal.table-returns
table-returns t c =
    let rules = c.args.self.now.rules in
    table-whole rules c.args.depth c.args.term.now c.loop-productions.table c.loop-productions.productions-index
    c.loop-productions.invariant.len
    (omega (arith, c.loop-productions-test.false, ap length c.as_slice-productions-items.ensures))
    c.loop-productions.invariant.found

pub tables-loop-arg-preserved : goal.tables-loop-arg-preserved
tables-loop-arg-preserved t c =
    rw c.in_ok-push-in-Node.ensures.ok
    (zip-more (AreFound c.args.self.now.rules c.args.depth) c.as_slice-arg-items.result.now c.loop-arg.tables
    c.loop-arg.arg-index c.arg-item.result c.in_ok-table-in-Node.field-0
    c.loop-arg-test.true c.arg-item.is c.loop-arg.invariant c.in_ok-table-in-Node.ensures)

pub tables-returns-after-loop-arg : goal.tables-returns-after-loop-arg
tables-returns-after-loop-arg t c =
    let all = take_all _ _ c.loop-arg-test.false in
    let whole = rw (all, c.as_slice-arg-items.ensures) at c.loop-arg.invariant in
    let args : arguments_of c.args.term.now ≡ c.in-Node.args =
    ap arguments_of c.in-Node.is ∙ arguments-Node c.in-Node.field-0 c.in-Node.args in
    rw args whole
