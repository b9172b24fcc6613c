use Rattle.std.proofs.Common.{length, ◌∙◌, ap}
use Rattle.am_tree.specs.Counts.{tree_count}
use Rattle.am_tree.proofs.Counted.{counts-zero, counts-suc}
use Rattle.am_tree.proofs.Formed.{inside}
use Rattle.am_tree.proofs.grammar.Grammar.count.Goals as goal

pub loop-init : goal.loop-init
loop-init c = record {
  len = c.zeros-counts.ensures.len ∙ ap length c.as_slice-rules.ensures;
  counts = counts-zero c.args.self.now.rules c.zeros-counts.result.items c.zeros-counts.ensures.zeros;
}

pub counts_above-counts-requires-clause-inside : goal.counts_above-counts-requires-clause-inside
counts_above-counts-requires-clause-inside c =
    let g = c.args.self.now in
    rw (c.as_slice.ensures.value, c.as_slice-rules.ensures, c.loop.invariant.len)
    (inside g.rules g.starts g.depth g.well_formed)

pub loop-preserved : goal.loop-preserved
loop-preserved c = record {
  len = c.counts_above-counts.ensures.len ∙ ap length c.as_slice-rules.ensures;
  counts = counts-suc c.args.self.now.rules c.loop.counter c.counts_above-counts.result.items
      (rw c.as_slice-rules.ensures at
      (c.counts_above-counts.ensures.counts (tree_count c.args.self.now.rules c.loop.counter)
      (rw c.as_slice.ensures.value c.loop.invariant.counts)));
}
