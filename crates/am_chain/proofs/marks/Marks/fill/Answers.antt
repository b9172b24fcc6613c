use Rattle.std.proofs.Common.{take_all}
use Rattle.am_lit.proofs.Laws.{Contains-nil}
use Rattle.am_chain.proofs.Marking.{item, clash, fill_more}
use Rattle.am_chain.proofs.marks.Marks.fill.Goals as goal

pub loop-l-init : goal.loop-l-init
loop-l-init c = λ m. ((λ t. absurd (clash _ t (c.requires.empty m))), (λ h. absurd (Contains-nil m h)))

pub loop-l-preserved : goal.loop-l-preserved
loop-l-preserved c =
    fill_more c.loop-l.self c.put.new.self c.l-item.result (c.in_ok-put.ensures) c.args.clause.now c.loop-l.l-index
    c.loop-l-test.true (item c.args.clause.now c.loop-l.l-index c.l-item.result c.loop-l-test.true c.l-item.is)
    c.loop-l.invariant

pub returns : goal.returns
returns c = record {
  rising = c.requires.rising;
  members = λ m.
      let h = rw (take_all c.loop-l.l-index c.args.clause.now c.loop-l-test.false) at (c.loop-l.invariant m) in
      (h.1, h.0);
}
