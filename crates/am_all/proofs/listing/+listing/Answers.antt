use Rattle.std.proofs.Common.{◌≡◌, ℕ, suc, ◌+◌, ◌<◌, ◌≤◌, [], length, get_or, refl, sym, ◌∙◌, ap, arith}
use Rattle.std.proofs.lemmas.List.{take_all}
use Rattle.std.proofs.lemmas.Option.{get_or_from_slice_get, slice_get_read}
use Rattle.am_tree.proofs.Laws.{each-few, formed-at}
use Rattle.am_tree.specs.Listed.{trees_of}
use Rattle.am_all.proofs.TreeLists.{trees_from, trees_from-more, trees_of-zero, trees_of-suc, levels-last, levels-below}
use Rattle.am_all.proofs.listing.+listing.Goals as goal

pub trees_of-returns-in_default : goal.trees_of-returns-in_default
trees_of-returns-in_default t c =
    let rules = c.args.grammar.now.rules in
    c.new-trees.ensures ∙ sym (ap (λ (k : ℕ). trees_of rules k c.args.symbol) c.in_default.ensures.cases
    ∙ trees_of-zero rules c.args.symbol)

pub trees_of-overflow_cast-i : goal.trees_of-overflow_cast-i
trees_of-overflow_cast-i t c =
    let rules = c.args.grammar.now.rules in
    let here : get_or rules c.args.symbol [] ≡ c.get.result.now =
    get_or_from_slice_get rules c.args.symbol c.get.result.now [] c.get.ensures in
    let few : length c.get.result.now ≤ 64 =
    rw here at (each-few c.args.grammar.now.well_formed c.args.symbol [] c.requires.symbol) in
    omega (arith, few, c.loop-i-test.true, ap length c.as_slice-productions.ensures)

pub trees_of-push_trees-requires : goal.trees_of-push_trees-requires
trees_of-push_trees-requires t c =
    let rules = c.args.grammar.now.rules in
    let ps = c.get.result.now in
    let split = c.in-Some.ensures.cases in
    let short : c.loop-i.i < length ps = omega (arith, c.loop-i-test.true, ap length c.as_slice-productions.ensures) in
    let is : c.index-productions-i.result ≡ get_or ps c.loop-i.i c.index-productions-i.result =
    rw c.as_slice-productions.ensures at c.index-productions-i.is in (
      let fell : length c.in-Some.below.now + 1 ≡ length c.args.levels.now = split.1 in
          omega (arith, fell, c.decreases),
      (
        formed-at c.args.grammar.now.well_formed c.args.symbol c.loop-i.i ps c.index-productions-i.result
            c.get.ensures (slice_get_read ps (length ps) c.loop-i.i c.index-productions-i.result refl short is),
        (
          rw c.as_slice.ensures (levels-last rules c.args.levels.now c.in-Some.below.now c.in-Some.level.now split.0
              c.requires.levels),
          levels-below rules c.args.levels.now c.in-Some.below.now c.in-Some.level.now split.0 c.requires.levels,
        ),
      ),
    )

pub trees_of-loop-i-preserved : goal.trees_of-loop-i-preserved
trees_of-loop-i-preserved t c =
    trees_from-more (trees_of c.args.grammar.now.rules (length c.in-Some.below.now))
    c.as_slice-productions.result.now c.loop-i.i c.index-productions-i.result c.loop-i.trees _
    c.loop-i-test.true c.index-productions-i.is c.loop-i.invariant c.in_ok-push_trees.ensures

pub trees_of-returns : goal.trees_of-returns
trees_of-returns t c =
    let rules = c.args.grammar.now.rules in
    let ps = c.as_slice-productions.result.now in
    let d = length c.in-Some.below.now in
    let here : get_or rules c.args.symbol [] ≡ ps =
    get_or_from_slice_get rules c.args.symbol c.get.result.now [] c.get.ensures
    ∙ sym c.as_slice-productions.ensures in
    let deep : suc d ≡ length c.args.levels.now = omega (arith, c.in-Some.ensures.cases) in
    c.loop-i.invariant
    ∙ ap (trees_from (trees_of rules d) 0) (take_all c.loop-i.i ps c.loop-i-test.false ∙ sym here)
    ∙ sym (trees_of-suc rules d c.args.symbol) ∙ ap (λ (k : ℕ). trees_of rules k c.args.symbol) deep
