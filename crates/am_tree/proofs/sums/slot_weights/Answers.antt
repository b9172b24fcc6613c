use Rattle.std.proofs.Common.{◌≡◌, ◌≤◌, ◌^◌, List, [], All, length, get_or, sym, ◌∙◌, ap, subst, arith}
use Rattle.std.proofs.lemmas.List.{get_or_default}
use Rattle.std.proofs.lemmas.List.Elements.{All-push}
use Rattle.am_tree.specs.declared.grammar.Production.{Production}
use Rattle.am_tree.specs.Slots.{offered_by}
use Rattle.am_tree.specs.Weights.{slot_weight}
use Rattle.am_tree.specs.inside.Totals.{HasSmallLeaf}
use Rattle.am_tree.proofs.Loops.{each-push}
use Rattle.am_tree.proofs.sums.slot_weights.Goals as goal

pub slot_weight-requires-clause-few : goal.slot_weight-requires-clause-few
slot_weight-requires-clause-few c =
    let ps = c.productions-item.result in
    let same = c.as_slice.ensures ∙ c.productions-item.is in
    subst (λ (xs : List Production). length xs ≤ 64) (sym same)
    (c.requires.few c.loop-productions.productions-index ps c.loop-productions-test.true)

pub slot_weight-requires-clause-small : goal.slot_weight-requires-clause-small
slot_weight-requires-clause-small c =
    let ps = c.productions-item.result in
    let same = c.as_slice.ensures ∙ c.productions-item.is in
    subst (λ (xs : List Production). All HasSmallLeaf xs) (sym same)
    (c.requires.small c.loop-productions.productions-index ps c.loop-productions-test.true)

pub loop-productions-preserved : goal.loop-productions-preserved
loop-productions-preserved c =
    let rules = c.args.rules.now in
    let w = c.args.w in
    let i = c.loop-productions.productions-index in
    let weights = c.loop-productions.weights.items in
    let x = c.slot_weight.result in
    let same =
    c.as_slice.ensures ∙ c.productions-item.is
    ∙ get_or_default rules i c.productions-item.result [] c.loop-productions-test.true in
    let here : x ≡ slot_weight w (offered_by c.args.below (get_or rules i [])) =
    c.slot_weight.ensures.value ∙ ap (λ (ps : List Production). slot_weight w (offered_by c.args.below ps)) same in
    record {
      len = omega (arith, c.push.ensures.len, c.loop-productions.invariant.len);
      each = rw c.push.ensures.items
          (each-push (λ n y. y ≡ slot_weight w (offered_by c.args.below (get_or rules n []))) weights x 0 i
          c.loop-productions.invariant.len c.loop-productions.invariant.each here);
      most =
          rw c.push.ensures.items
          (All-push (λ y. y ≤ 2 ^ 21) weights x c.loop-productions.invariant.most c.slot_weight.ensures.most);
    }
