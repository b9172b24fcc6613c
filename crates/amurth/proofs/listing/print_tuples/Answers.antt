use Rattle.std.proofs.Common.{sym, subst}
use Rattle.am_tree.specs.Trees.{AreTrees}
use Rattle.amurth.proofs.Printable.{trees_printable}
use Rattle.amurth.proofs.listing.print_tuples.Goals as goal

pub terms_of-requires : goal.terms_of-requires
terms_of-requires c =
    let p = c.args.problem.now in
    let here = c.requires c.loop-trees.trees-index c.trees-item.result c.loop-trees-test.true in
    rw (c.grammar.ensures.rules, c.grammar.ensures.starts, c.grammar.ensures.depth)
    (subst (AreTrees p.rules p.starts p.depth) (sym c.trees-item.is) here)

pub print_tuple-requires : goal.print_tuple-requires
print_tuple-requires c =
    let p = c.args.problem.now in
    let here = subst (AreTrees p.rules p.starts p.depth) (sym c.trees-item.is)
    (c.requires c.loop-trees.trees-index c.trees-item.result c.loop-trees-test.true) in
    let fit = trees_printable p c.keeps_limits.ensures c.trees-item.result here in
    rw (c.as_slice.ensures, c.in_ok-terms.ensures, c.grammar.ensures.rules, c.grammar.ensures.starts) fit
