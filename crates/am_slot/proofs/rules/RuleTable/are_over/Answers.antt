use Rattle.std.proofs.Common.{List, All, IsTrue, refl, get_or}
use Rattle.std.proofs.lemmas.List.{take_all}
use Rattle.std.proofs.lemmas.List.Elements.{All-more, All-get_or}
use Rattle.am_tree.specs.declared.grammar.Production.{Production}
use Rattle.am_slot.specs.declared.rules.Rule.{Rule}
use Rattle.am_slot.specs.Encoding.{is_leaf_over}
use Rattle.am_slot.proofs.Tables.{all-shown, all-held}
use Rattle.am_slot.proofs.rules.RuleTable.are_over.Goals as goal

pub loop-rule-preserved : goal.loop-rule-preserved
loop-rule-preserved c =
    let P = λ (ps : List Production). All (λ p. IsTrue (is_leaf_over c.args.w c.args.count p)) ps in
    let items = c.as_slice-rule-items.result.now in
    let i = c.loop-rule.rule-index in
    let r = c.rule-item.result in
    let here : P (get_or items i r).productions =
    rw (← c.rule-item.is, ← c.as_slice.ensures) (c.if-not-are_leaves_over.ensures.0 refl) in
    All-more (λ (q : Rule). P q.productions) items i r c.loop-rule-test.true c.loop-rule.invariant here

pub returns : goal.returns
returns c =
    let P = λ (ps : List Production). All (λ p. IsTrue (is_leaf_over c.args.w c.args.count p)) ps in
    let items = c.as_slice-rule-items.result.now in
    let all = take_all c.loop-rule.rule-index items c.loop-rule-test.false in
    let shown = all-shown P items (rw all at c.loop-rule.invariant) in
    (λ _. rw (c.as_slice-rule-items.ensures, c.self.view_is) at shown, λ _. refl)

pub returns-then-not-are_leaves_over : goal.returns-then-not-are_leaves_over
returns-then-not-are_leaves_over c =
    let P = λ (ps : List Production). All (λ p. IsTrue (is_leaf_over c.args.w c.args.count p)) ps in
    let items = c.as_slice-rule-items.result.now in
    let i = c.loop-rule.rule-index in
    let r = c.rule-item.result in (
      λ f. cc,
      λ h.
          let held = all-held P items (rw (c.as_slice-rule-items.ensures, c.self.view_is) h) in
          let at = All-get_or (λ (q : Rule). P q.productions) items i r c.loop-rule-test.true held in
          c.if-not-are_leaves_over.ensures.1 (rw c.as_slice.ensures (rw (← c.rule-item.is) at at)),
    )
