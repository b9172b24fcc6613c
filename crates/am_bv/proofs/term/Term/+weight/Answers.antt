use Rattle.std.proofs.Common.{◌≡◌, get_or, ap, ◌∙◌, arith, rules}
use Rattle.std.proofs.lemmas.List.{take_all}
use Rattle.am_bv.specs.declared.term.Term.{the_lemmas}
use Rattle.am_bv.specs.Terms.{nodes}
use Rattle.am_bv.proofs.ByKind.{nodes-Node, nodes_up_to, weight-Node}
use Rattle.am_bv.proofs.term.Term.+weight.Goals as goal

pub weight-sum-requires-in-loop-t : goal.weight-sum-requires-in-loop-t
weight-sum-requires-in-loop-t t c =
    let at : c.t-item.result ≡ get_or c.in-Node.args c.loop-t.t-index c.t-item.result = cc in
    let below = rw c.as_slice-t-items.ensures at c.loop-t-test.true in
    let part = nodes_up_to c.in-Node.op c.in-Node.args c.loop-t.t-index c.t-item.result below at in
    (search (rules, the_lemmas), omega (arith, part, ap nodes c.in-Node.is))

pub overflow_add-sum : goal.overflow_add-sum
overflow_add-sum t c =
    let at : c.t-item.result ≡ get_or c.in-Node.args c.loop-t.t-index c.t-item.result = cc in
    let below = rw c.as_slice-t-items.ensures at c.loop-t-test.true in
    let part = nodes_up_to c.in-Node.op c.in-Node.args c.loop-t.t-index c.t-item.result below at in
    let so_far = rw c.as_slice-t-items.ensures at c.loop-t.invariant.most in
    omega (arith, part, ap nodes c.in-Node.is, so_far, c.weight-sum-in-loop-t.ensures.most)

pub returns-after-loop-t-clause-value : goal.returns-after-loop-t-clause-value
returns-after-loop-t-clause-value t c =
    let all = take_all _ _ c.loop-t-test.false in
    let law = weight-Node c.args.w c.in-Node.op c.in-Node.args in
    cc

pub returns-after-loop-t-clause-most : goal.returns-after-loop-t-clause-most
returns-after-loop-t-clause-most t c =
    let all = take_all _ _ c.loop-t-test.false in
    let whole = ap nodes c.in-Node.is ∙ nodes-Node c.in-Node.op c.in-Node.args in
    let most = rw (all, c.as_slice-t-items.ensures) at c.loop-t.invariant.most in
    omega (arith, most, whole)
