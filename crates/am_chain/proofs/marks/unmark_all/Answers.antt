use Rattle.std.proofs.Common.{length-set, ◌≡◌, ◌<◌, get_or, length, drop, [], sym, ◌∙◌, arith}
use Rattle.std.proofs.lemmas.List.{at_drop_all}
use Rattle.am_chain.specs.inside.Marks.{is_in}
use Rattle.am_chain.proofs.Marking.{item, not_true, clash, unmark_more}
use Rattle.am_chain.proofs.marks.unmark_all.Goals as goal

pub loop-l-preserved : goal.loop-l-preserved
loop-l-preserved c =
    let i = c.loop-l.l-index in
    let here : get_or c.args.touched.now i 0 ≡ c.code-code.result =
    item c.args.touched.now i c.l-item.result c.loop-l-test.true c.l-item.is ∙ sym c.code-code.ensures in
    let inside : c.code-code.result < length c.loop-l.marks =
    omega (arith, here, c.loop-l.invariant.in_range i 0 c.loop-l-test.true) in
    record {
      in_range = λ k d lt. rw length-set (c.loop-l.invariant.in_range k d lt);
      left =
          unmark_more c.loop-l.marks c.args.touched.now i c.code-code.result c.loop-l-test.true here inside
          c.loop-l.invariant.left;
    }

pub returns : goal.returns
returns c = λ l. not_true _ (λ t.
    let there = c.loop-l.invariant.left l t in
    let none : is_in (drop c.loop-l.l-index c.args.touched.now) l ≡ is_in [] l =
    at_drop_all (λ ms. is_in ms l) c.args.touched.now c.loop-l.l-index c.loop-l-test.false in
    clash _ there none)
