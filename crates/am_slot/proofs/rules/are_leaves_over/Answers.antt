use Rattle.std.proofs.Common.{◌≡◌, IsTrue, true, refl}
use Rattle.std.proofs.lemmas.List.{take_all}
use Rattle.std.proofs.lemmas.List.Elements.{All-more}
use Rattle.am_slot.specs.Encoding.{is_leaf_over}
use Rattle.am_slot.proofs.rules.are_leaves_over.Goals as goal

pub loop-production-preserved : goal.loop-production-preserved
loop-production-preserved c =
    let here : is_leaf_over c.args.w c.args.count c.production-item.result ≡ true = cc in
    All-more (λ p. IsTrue (is_leaf_over c.args.w c.args.count p)) c.args.productions.now
    c.loop-production.production-index c.production-item.result
    c.loop-production-test.true c.loop-production.invariant (rw (← c.production-item.is) here)

pub returns : goal.returns
returns c =
    let all = take_all _ _ c.loop-production-test.false in
    (λ _. rw all at c.loop-production.invariant, λ _. refl)
