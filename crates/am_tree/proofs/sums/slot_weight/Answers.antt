use Rattle.std.proofs.Common.{◌≡◌, ◌+◌, true, arith, ap}
use Rattle.std.proofs.lemmas.List.Sums.{sum_by-cons}
use Rattle.am_tree.specs.Slots.{Numbered, is_offered}
use Rattle.am_tree.specs.Weights.{production_weight, slot_weight}
use Rattle.am_tree.proofs.Loops.{offered_from, offered-next}
use Rattle.am_tree.proofs.sums.slot_weight.Goals as goal

pub loop-production-preserved : goal.loop-production-preserved
loop-production-preserved c =
    let ps = c.args.productions.now in
    let i = c.loop-production.production-index in
    let p = c.production-item.result in
    let has : is_offered c.args.below p ≡ true = cc in
    let rest = offered_from c.args.below (i + 1) ps in
    let next =
    ap (slot_weight c.args.w)
    (offered-next c.args.below i p ps c.loop-production-test.true c.production-item.is has) in
    let sum =
    sum_by-cons (λ (q : Numbered). production_weight c.args.w q.production + c.args.w)
    (record { number = i; production = p }) rest in
    let weight = c.production_weight.ensures.value in
    let bits = c.bits.ensures.value in
    let wide = c.from.ensures in
    record {
      rest = omega (arith, next, sum, weight, bits, wide, c.loop-production.invariant.rest);
      most =
          omega (
            arith,
            c.production_weight.ensures.most,
            c.bits.ensures.width.1,
            bits,
            wide,
            c.loop-production.invariant.most,
          );
    }
