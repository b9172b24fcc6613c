use Rattle.std.proofs.Common.{◌≡◌, ◌-◌, [], sym, ◌∙◌, arith}
use Rattle.std.proofs.lemmas.Result.{IfOk-weaker}
use Rattle.std.proofs.lemmas.List.{get_or_default}
use Rattle.am_slot.proofs.Standing.{some-place, no-place}
use Rattle.am_slot.proofs.block.word_at.Goals as goal

pub returns-in-Some : goal.returns-in-Some
returns-in-Some c =
    let ws = c.args.words.now in
    let i = c.in-Some.i in
    let stands = some-place [] c.args.argument 0 i c.args.children.now ws c.requires (sym c.in-Some.ensures.value) in
    let first : i - 0 ≡ i = omega arith in
    let item = rw first at stands.item in
    IfOk-weaker c.copied.result _ _
    (λ r e. e ∙ c.as_slice.ensures ∙ c.index-words-i.is
    ∙ get_or_default ws i _ [] (omega (arith, c.in-Some.ensures.inside, c.requires)) ∙ sym item)
    c.copied.ensures

pub returns-in-None : goal.returns-in-None
returns-in-None c =
    c.new.ensures
    ∙ sym (no-place [] c.args.argument 0 c.args.children.now c.args.words.now (sym c.in-None.ensures.value))
