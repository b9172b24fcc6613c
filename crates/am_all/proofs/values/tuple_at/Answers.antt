use Rattle.std.proofs.Common.{length-append, arith, ◌∙◌}
use Rattle.am_all.proofs.NumberLaws.{words_at-next}
use Rattle.am_all.proofs.values.tuple_at.Goals as goal

pub loop-preserved : goal.loop-preserved
loop-preserved c = record {
  pushed = rw c.push.ensures (simp length-append (omega arith));
  base = c.loop.invariant.base;
  left = rw (c.push.ensures, c.loop.invariant.base)
      (words_at-next c.args.w c.args.count c.loop.counter c.loop.rest c.loop.tuple c.loop-test.true
      ∙ c.loop.invariant.left);
}
