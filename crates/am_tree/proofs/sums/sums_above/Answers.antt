use Rattle.std.proofs.Common.{◌≡◌, ℕ, ◌+◌, ◌<◌, List, [], All, length, get_or, sum_by, sym, ◌∙◌, ap, subst, arith}
use Rattle.std.specs.Prelude.{slice_index}
use Rattle.std.proofs.lemmas.List.{get_or_default}
use Rattle.std.proofs.lemmas.List.Elements.{All-from_recursion}
use Rattle.am_tree.specs.declared.grammar.Production.{Production}
use Rattle.am_tree.specs.declared.slots.Argument.{Argument}
use Rattle.am_tree.specs.Slots.{shared_by}
use Rattle.am_tree.proofs.Inside.{shared-inside}
use Rattle.am_tree.proofs.Loops.{each-push}
use Rattle.am_tree.proofs.sums.sums_above.Goals as goal

pub children_sum-requires-clause-inside : goal.children_sum-requires-clause-inside
children_sum-requires-clause-inside c =
    let rules = c.args.rules.now in
    let n = c.loop-n.n in
    let same =
    c.as_slice.ensures ∙ c.index-rules-n.is ∙ get_or_default rules n c.index-rules-n.result [] c.loop-n-test.true in
    rw c.requires.below.len
    (subst (λ (ps : List Production). All (λ (a : Argument). a.symbol < length rules) (shared_by 1 ps)) (sym same)
    (All-from_recursion (λ (a : Argument). a.symbol < length rules) (shared_by 1 (get_or rules n []))
    (shared-inside (length rules) rules c.requires.rules.inside n)))

pub loop-n-preserved : goal.loop-n-preserved
loop-n-preserved c =
    let rules = c.args.rules.now in
    let inner = c.args.inner.now in
    let below = c.args.below.now in
    let n = c.loop-n.n in
    let sums = c.loop-n.sums.items in
    let same =
    c.as_slice.ensures ∙ c.index-rules-n.is ∙ get_or_default rules n c.index-rules-n.result [] c.loop-n-test.true in
    let here = ap (λ (k : ℕ). get_or inner n 0 + k)
    (c.children_sum.ensures.value
    ∙ ap (λ (ps : List Production). sum_by (λ (a : Argument). slice_index below a.symbol) (shared_by 1 ps)) same) in
    record {
      len = omega (arith, c.push.ensures.len, c.loop-n.invariant.len);
      each = rw c.push.ensures.items
          (each-push
          (λ m y. y
          ≡ slice_index inner m
          + sum_by (λ (a : Argument). slice_index below a.symbol) (shared_by 1 (get_or rules m [])))
          sums
          (get_or inner n 0 + c.children_sum.result) 0 n c.loop-n.invariant.len c.loop-n.invariant.each here);
    }
