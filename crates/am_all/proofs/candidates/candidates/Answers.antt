use Rattle.std.proofs.Common.{sym}
use Rattle.am_all.proofs.TreeLaws.{listed-derives}
use Rattle.am_all.proofs.candidates.candidates.Goals as goal

pub evaluated-requires : goal.evaluated-requires
evaluated-requires c =
    let p = c.args.p.now in
    let i = c.loop-tree.tree-index in
    let t = c.tree-item.result in
    let listed = rw (c.as_slice-tree-items.ensures, c.in_ok-trees.ensures, c.grammar.ensures.rules, c.requires.depth)
    at c.tree-item.is in
    let below = rw (c.as_slice-tree-items.ensures, c.in_ok-trees.ensures, c.grammar.ensures.rules, c.requires.depth)
    at c.loop-tree-test.true in
    record {
      cases = c.requires.cases;
      tree = (listed-derives p.rules p.depth c.args.start t).0 (i, below, sym listed);
    }
