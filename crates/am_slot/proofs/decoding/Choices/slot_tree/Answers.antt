use Rattle.std.proofs.Common.{◌≡◌, ◌<◌, List, [], length, get_or, sym, ◌∙◌, ap, subst, arith}
use Rattle.std.specs.Prelude.{slice_index_or, IsTrue}
use Rattle.std.proofs.lemmas.List.Elements.{All-get_or}
use Rattle.am_lit.specs.Truth.{value_at}
use Rattle.am_tree.specs.declared.grammar.Production.{Production}
use Rattle.am_tree.specs.declared.tree.Tree.{Tree}
use Rattle.am_tree.specs.Grammars.{is_production}
use Rattle.am_tree.specs.Trees.{tree}
use Rattle.am_tree.proofs.Laws.{short-production}
use Rattle.am_slot.proofs.Numbers.{picked-some, inside-get, item-get}
use Rattle.am_slot.proofs.decoding.Choices.slot_tree.Goals as goal

pub offset_bounds-productions-number : goal.offset_bounds-productions-number
offset_bounds-productions-number c =
    let same = c.productions-productions.ensures.value in
    let p =
    picked-some c.args.self.now.rules.now c.args.below c.args.symbol c.args.x c.in-Some.number
    (value_at c.args.self.now.assignment.now.values) (sym (rw same at c.in-Some.ensures)) in
    let here : c.in-Some.number < length c.productions-productions.result.now =
    rw same (inside-get _ c.in-Some.number _ (rw p.numbered at p.offered.at)) in
    omega (arith, here, c.productions-productions.ensures.few)

pub bounds-productions-number : goal.bounds-productions-number
bounds-productions-number c =
    let same = c.productions-productions.ensures.value in
    let p =
    picked-some c.args.self.now.rules.now c.args.below c.args.symbol c.args.x c.in-Some.number
    (value_at c.args.self.now.assignment.now.values) (sym (rw same at c.in-Some.ensures)) in
    rw same (inside-get _ c.in-Some.number _ (rw p.numbered at p.offered.at))

pub trees_at-requires-clause-few : goal.trees_at-requires-clause-few
trees_at-requires-clause-few c =
    let same = c.productions-productions.ensures.value in
    let p =
    picked-some c.args.self.now.rules.now c.args.below c.args.symbol c.args.x c.in-Some.number
    (value_at c.args.self.now.assignment.now.values) (sym (rw same at c.in-Some.ensures)) in
    let here : c.in-Some.number < length c.productions-productions.result.now =
    rw same (inside-get _ c.in-Some.number _ (rw p.numbered at p.offered.at)) in
    let P = λ (q : Production). IsTrue (is_production (length c.args.self.now.rules.now) q) in
    short-production (length c.args.self.now.rules.now) _
    (subst P (sym c.index-productions-number.is)
    (All-get_or P c.productions-productions.result.now c.in-Some.number _ here
    c.productions-productions.ensures.whole))

pub overflow_cast-result : goal.overflow_cast-result
overflow_cast-result c =
    let same = c.productions-productions.ensures.value in
    let p =
    picked-some c.args.self.now.rules.now c.args.below c.args.symbol c.args.x c.in-Some.number
    (value_at c.args.self.now.assignment.now.values) (sym (rw same at c.in-Some.ensures)) in
    let here : c.in-Some.number < length c.productions-productions.result.now =
    rw same (inside-get _ c.in-Some.number _ (rw p.numbered at p.offered.at)) in
    omega (arith, here, c.productions-productions.ensures.few)

pub returns-in_ok-children-in-Some : goal.returns-in_ok-children-in-Some
returns-in_ok-children-in-Some c =
    let number = c.in-Some.number in
    let ps = slice_index_or c.args.self.now.rules.now c.args.symbol [] in
    let result = c.index-productions-number.result in
    let same = c.productions-productions.ensures.value in
    let p =
    picked-some c.args.self.now.rules.now c.args.below c.args.symbol c.args.x number
    (value_at c.args.self.now.assignment.now.values) (sym (rw same at c.in-Some.ensures)) in
    let at = rw p.numbered at p.offered.at in
    let item : result ≡ p.production.production =
    c.index-productions-number.is ∙ ap (λ (qs : List Production). get_or qs number result) same
    ∙ item-get ps number p.production.production result at in
    let made = rw (item, c.children-arguments.ensures, same) at c.in_ok-children-in-Some.ensures in
    rw (p.is, p.numbered) (ap (λ (ts : List Tree). tree number ts) made)
