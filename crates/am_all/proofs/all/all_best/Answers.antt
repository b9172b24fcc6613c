use Rattle.std.proofs.Common.{◌≡◌, [], length, refl, arith}
use Rattle.am_problem.specs.Kinds.{fields_of}
use Rattle.am_all.specs.AllBest.{ends}
use Rattle.am_tree.specs.Listed.{trees_of, tuples_of}
use Rattle.am_all.specs.inside.Levels.{AreLevels, IsToldLevel}
use Rattle.am_all.proofs.NumberLaws.{one-less}
use Rattle.am_all.proofs.TreeLists.{levels-below, levels-last}
use Rattle.am_all.proofs.all.all_best.Goals as goal

pub best_above-requires : goal.best_above-requires
best_above-requires c =
    let p = c.args.p.now in
    let split = rw c.as_slice.ensures at c.in-Some.ensures.cases in
    let deep = c.in_ok-levels.ensures.0 in
    let all : AreLevels p.rules c.in_ok-levels.levels =
    rw c.grammar-grammar.ensures.rules at c.in_ok-levels.ensures.1 in
    record {
      few = one-less p.width p.inputs (fields_of p.kind) c.keeps_limits.ensures.formed.some_input c.requires.bits;
      depth = omega (arith, split.1, deep, c.grammar-grammar.ensures.depth);
      levels = levels-below p.rules c.in_ok-levels.levels c.in-Some.below.now c.in-Some.last.now split.0 all;
    }

pub returns-then-not-have_trees : goal.returns-then-not-have_trees
returns-then-not-have_trees c =
    let p = c.args.p.now in
    let split = rw c.as_slice.ensures at c.in-Some.ensures.cases in
    let deep = c.in_ok-levels.ensures.0 in
    let all : AreLevels p.rules c.in_ok-levels.levels =
    rw c.grammar-grammar.ensures.rules at c.in_ok-levels.ensures.1 in
    let told = levels-last p.rules c.in_ok-levels.levels c.in-Some.below.now c.in-Some.last.now split.0 all in
    let depth : length c.in-Some.below.now ≡ p.depth = omega (arith, split.1, deep, c.grammar-grammar.ensures.depth) in
    let level : IsToldLevel (trees_of p.rules (length c.in-Some.below.now)) c.as_slice-3.result.now =
    rw c.as_slice-3.ensures told in
    let empty : tuples_of p.rules p.starts p.depth ≡ [] =
    rw (c.as_slice-2.ensures, c.grammar-grammar.ensures.starts, depth) at
    (c.if-not-have_trees.ensures refl (trees_of p.rules (length c.in-Some.below.now)) level) in
    rw (empty, c.new-then-not-have_trees.ensures) ends
