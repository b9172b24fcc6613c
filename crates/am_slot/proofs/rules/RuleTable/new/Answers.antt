use Rattle.std.proofs.Common.{◌≡◌, ◌<◌, List, [], ◌∷◌, ◌++◌, take, length, get_or, sym, ◌∙◌, ap}
use Rattle.std.proofs.lemmas.List.{get_or_default, map-append, take_more, take_all}
use Rattle.std.proofs.lemmas.List.Elements.{All-append, All-cons, All-nil}
use Rattle.am_tree.specs.declared.grammar.Production.{Production}
use Rattle.am_tree.specs.Slots.{shared_by}
use Rattle.am_slot.specs.declared.rules.Rule.{Rule}
use Rattle.am_slot.proofs.Tables.{whole, few_productions, whole_productions, short}
use Rattle.am_slot.proofs.rules.RuleTable.new.Goals as goal

pub rule_of-requires : goal.rule_of-requires
rule_of-requires c =
    let g = c.args.grammar.now in
    let i = c.loop-productions.productions-index in
    let items = c.as_slice-productions-items.ensures in
    let here : i < length g.rules = rw items at c.loop-productions-test.true in
    let is = c.as_slice.ensures ∙ (rw items at c.productions-item.is) ∙ get_or_default g.rules i _ [] here in
    let w = whole g.rules g.starts g.depth g.well_formed in
    record {
      short = short (length g.rules) _ (whole_productions g.rules w i here _ is);
      few = few_productions g.rules w i here _ is;
    }

pub loop-productions-preserved : goal.loop-productions-preserved
loop-productions-preserved c =
    let rs = c.args.grammar.now.rules in
    let i = c.loop-productions.productions-index in
    let items = c.as_slice-productions-items.ensures in
    let item = c.productions-item.result in
    let rule = c.in_ok-rule_of.field-0 in
    let here : i < length rs = rw items at c.loop-productions-test.true in
    let put : rule.productions ≡ get_or rs i item =
    c.in_ok-rule_of.ensures.productions ∙ c.as_slice.ensures ∙ (rw items at c.productions-item.is) in
    let P = λ (r : Rule). r.children.items ≡ shared_by 1 r.productions in
    let own : P rule = rw (← c.in_ok-rule_of.ensures.productions) at c.in_ok-rule_of.ensures.children in
    record {
      copies =
          rw c.in_ok-push.ensures.ok (map-append (λ (r : Rule). r.productions) c.loop-productions.rules (rule ∷ []))
          ∙ ap (λ (l : List (List Production)). l ++ rule.productions ∷ []) c.loop-productions.invariant.copies
          ∙ ap (λ (p : List Production). take i rs ++ p ∷ []) put
          ∙ sym (take_more rs i item here);
      children =
          rw c.in_ok-push.ensures.ok
          (All-append P c.loop-productions.rules (rule ∷ []) c.loop-productions.invariant.children
          (All-cons P rule [] own (All-nil P)));
    }

pub invariant_of-result : goal.invariant_of-result
invariant_of-result c =
    let g = c.args.grammar.now in
    let items = c.as_slice-productions-items.ensures in
    let past = rw items at c.loop-productions-test.false in
    let all = c.loop-productions.invariant.copies ∙ take_all c.loop-productions.productions-index g.rules past in
    (c.loop-productions.invariant.children, rw all (whole g.rules g.starts g.depth g.well_formed))
