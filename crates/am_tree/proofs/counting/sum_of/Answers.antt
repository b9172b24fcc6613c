use Rattle.std.proofs.Common.{sym, sum_by, take}
use Rattle.std.proofs.lemmas.List.Sums.{sum_by_more}
use Rattle.am_tree.specs.Counts.{production_count}
use Rattle.am_tree.proofs.counting.sum_of.Goals as goal

pub count_of-requires : goal.count_of-requires
count_of-requires c =
    rw (sym c.production-item.is) at
    (c.requires c.loop-production.production-index c.production-item.result c.loop-production-test.true)

pub loop-production-preserved : goal.loop-production-preserved
loop-production-preserved c = λ f counts.
    let ps = c.args.productions.now in
    let i = c.loop-production.production-index in
    rw (
      sum_by_more (production_count f) ps i c.production-item.result c.loop-production-test.true,
      ← c.production-item.is,
    )
    (c.plus-sum.ensures (sum_by (production_count f) (take i ps)) (production_count f c.production-item.result)
    (c.loop-production.invariant f counts) (c.count_of.ensures f counts))
