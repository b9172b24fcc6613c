use Rattle.std.proofs.Common.{arith}
use Rattle.am_trail.specs.Trails.{literals}
use Rattle.am_solve.proofs.Counting.{start_below, below_last}
use Rattle.am_solve.proofs.analysis.last_marked.Goals as goal

pub overflow_sub-i : goal.overflow_sub-i
overflow_sub-i c =
    let low =
    start_below (literals c.args.trail.now.entries) c.args.marks.now.start c.args.marks.now.places.items
    c.args.marks.now.kept.items c.args.marks.now.count c.args.before c.requires.counted c.requires.some
    c.requires.above in
    omega arith

pub loop-i-init : goal.loop-i-init
loop-i-init c =
    let low =
    start_below (literals c.args.trail.now.entries) c.args.marks.now.start c.args.marks.now.places.items
    c.args.marks.now.kept.items c.args.marks.now.count c.args.before c.requires.counted c.requires.some
    c.requires.above in
    record { below = omega arith; high = omega arith; above = λ k lt. c.requires.above k (omega arith) }

pub overflow_sub-i-in-loop-i : goal.overflow_sub-i-in-loop-i
overflow_sub-i-in-loop-i c =
    let low =
    below_last (literals c.args.trail.now.entries) c.args.marks.now.start c.args.marks.now.places.items
    c.args.marks.now.kept.items c.args.marks.now.count c.loop-i.i c.index.result.now c.requires.counted
    c.requires.some (omega (arith, c.loop-i.invariant.below, c.requires.before)) c.index.ensures
    c.loop-i-test.true c.loop-i.invariant.above in
    omega (arith, low.0)

pub loop-i-smaller : goal.loop-i-smaller
loop-i-smaller c =
    let low =
    below_last (literals c.args.trail.now.entries) c.args.marks.now.start c.args.marks.now.places.items
    c.args.marks.now.kept.items c.args.marks.now.count c.loop-i.i c.index.result.now c.requires.counted
    c.requires.some (omega (arith, c.loop-i.invariant.below, c.requires.before)) c.index.ensures
    c.loop-i-test.true c.loop-i.invariant.above in
    omega (arith, low.0)

pub loop-i-preserved : goal.loop-i-preserved
loop-i-preserved c =
    let low =
    below_last (literals c.args.trail.now.entries) c.args.marks.now.start c.args.marks.now.places.items
    c.args.marks.now.kept.items c.args.marks.now.count c.loop-i.i c.index.result.now c.requires.counted
    c.requires.some (omega (arith, c.loop-i.invariant.below, c.requires.before)) c.index.ensures
    c.loop-i-test.true c.loop-i.invariant.above in
    record {
      below = omega (arith, c.loop-i.invariant.below);
      high = omega (arith, low.0);
      above = λ k lt. low.1 k (omega (arith, low.0));
    }
