use Rattle.std.proofs.Common.{◌∙◌, arith}
use Rattle.am_tree.proofs.Loops.{distinct-production}
use Rattle.am_tree.proofs.slots.shared.Goals as goal

pub loop-production-preserved : goal.loop-production-preserved
loop-production-preserved c = record {
  items = rw c.add_arguments.ensures.items
      (distinct-production c.loop-production.seen.items c.args.productions.now c.loop-production.production-index
      c.production-item.result c.loop-production-test.true c.production-item.is
      ∙ c.loop-production.invariant.items);
  len = omega (arith, c.add_arguments.ensures.len, c.loop-production.invariant.len);
}
