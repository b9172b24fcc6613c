use Rattle.std.proofs.Common.{◌≡◌, ◌-◌, [], sym, ◌∙◌, arith}
use Rattle.std.proofs.lemmas.Result.{IfOk-weaker}
use Rattle.std.proofs.lemmas.List.{get_or_default}
use Rattle.am_tree.specs.Trees.{tree}
use Rattle.am_slot.proofs.Standing.{some-place, no-place}
use Rattle.am_slot.proofs.decoding.tree_at.Goals as goal

pub returns-in-Some : goal.returns-in-Some
returns-in-Some c =
    let ts = c.args.trees.now in
    let i = c.in-Some.i in
    let other = tree c.args.missing [] in
    let stands = some-place other c.args.argument 0 i c.args.children.now ts c.requires (sym c.in-Some.ensures.value) in
    let first : i - 0 ≡ i = omega arith in
    let item = rw first at stands.item in
    IfOk-weaker c.copy.result _ _
    (λ r e. e ∙ c.index-trees-i.is ∙ get_or_default ts i _ other (omega (arith, c.in-Some.ensures.inside, c.requires))
    ∙ sym item)
    c.copy.ensures

pub returns-in-None : goal.returns-in-None
returns-in-None c =
    rw c.new.ensures
    (sym
    (no-place (tree c.args.missing []) c.args.argument 0 c.args.children.now c.args.trees.now
    (sym c.in-None.ensures.value)))
