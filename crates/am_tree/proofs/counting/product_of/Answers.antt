use Rattle.std.proofs.Common.{get_or, take}
use Rattle.am_tree.specs.Counts.{product_by}
use Rattle.am_tree.proofs.Counted.{product-more}
use Rattle.am_tree.proofs.counting.product_of.Goals as goal

pub loop-n-preserved : goal.loop-n-preserved
loop-n-preserved c = λ f counts.
    let i = c.loop-n.n-index in
    let n = get_or c.args.names.now i 0 in
    rw (product-more f c.args.names.now i c.loop-n-test.true)
    (c.times-product.ensures (product_by f (take i c.args.names.now)) (f n) (c.loop-n.invariant f counts)
    (counts n (c.requires i 0 c.loop-n-test.true)))
