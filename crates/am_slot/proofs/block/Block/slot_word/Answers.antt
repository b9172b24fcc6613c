use Rattle.std.proofs.Common.{◌≡◌, ◌+◌, true, false, refl, sym, ◌∙◌, ap, arith}
use Rattle.std.proofs.lemmas.List.Sums.{sum_by-cons}
use Rattle.am_gate.proofs.Laws.{Follows-bind, Follows-answer, Grows-same, Grows-trans, Begins-same, Begins-trans}
use Rattle.am_gate.specs.Circuit.{Grows}
use Rattle.am_blast.specs.Words.{zeros}
use Rattle.am_blast.proofs.Laws.{IsWord-zeros}
use Rattle.am_tree.specs.Slots.{Numbered, is_offered, offered_by}
use Rattle.am_tree.specs.Weights.{production_weight, slot_weight}
use Rattle.am_slot.specs.Blocks.{slot_word}
use Rattle.am_slot.proofs.Loops.{offered_from, offered-next, offered-passed, offered-end}
use Rattle.am_slot.proofs.Levels.{all_stand}
use Rattle.am_slot.proofs.block.Block.slot_word.Goals as goal

pub loop-production-preserved : goal.loop-production-preserved
unfolding slot_word
loop-production-preserved c =
    let i = c.loop-production.production-index in
    let p = c.production-item.result in
    let ps = c.productions-productions.result.now in
    let w = c.args.self.now.width in
    let inv = c.loop-production.invariant in
    let gives = c.in_ok-word-2.ensures.ok in
    let has : is_offered c.args.below p ≡ true = sym c.is_offered.ensures ∙ c.if-not-is_offered.false in
    let next = offered-next c.args.below i p ps c.loop-production-test.true c.production-item.is has in
    let counted = rw next at inv.selectors in
    let weighed = rw next at inv.grows.2 in
    let q : Numbered = record { number = i; production = p } in
    let cons =
    sum_by-cons (λ (r : Numbered). production_weight w r.production + w) q (offered_from c.args.below (i + 1) ps) in
    record {
      follows = λ rest end h. inv.follows rest end (rw next (Follows-bind _ gives.follows h));
      word = gives.given;
      stand = (rw next at inv.stand).1;
      selectors = omega (arith, counted);
      grows = (
        inv.grows.0 + (production_weight w p + w),
        Grows-trans _ inv.grows.1 gives.grows (omega arith),
        omega (arith, weighed, cons),
      );
      begins = Begins-trans inv.begins c.in_ok-word-2.ensures.begins;
    }

pub returns-clause-ok : goal.returns-clause-ok
unfolding slot_word
returns-clause-ok c =
    let i = c.loop-production.production-index in
    let ps = c.productions-productions.result.now in
    let w = c.args.self.now.width in
    let inv = c.loop-production.invariant in
    let kids = c.children.ensures in
    let prods = c.productions-productions.ensures.value in
    let none = offered-end c.args.below i ps c.loop-production-test.false in
    let weighed = rw none at inv.grows.2 in
    let follows = inv.follows c.loop-production.word c.loop-production.circuit (rw none Follows-answer) in
    let grows : Grows (slot_weight w (offered_by c.args.below ps)) c.args.circuit.now c.loop-production.circuit =
    Grows-trans _ inv.grows.1 (Grows-same c.loop-production.circuit) (omega (arith, weighed)) in
    record {
      follows = rw (kids, prods) at follows;
      given = inv.word;
      grows = rw prods at grows;
    }

pub loop-production-init : goal.loop-production-init
loop-production-init c =
    let zero = c.in_ok-word.ensures ∙ ap zeros c.bits.ensures.value in
    record {
      follows = λ rest end h. rw zero at h;
      word = rw zero (IsWord-zeros c.args.self.now.width c.args.circuit.now.vars c.requires.truth);
      stand =
          rw (c.children.ensures, c.productions-productions.ensures.value)
          (all_stand c.args.self.now.rules.now c.args.below c.args.symbol);
      selectors = refl;
      grows = (0, Grows-same c.args.circuit.now, omega arith);
      begins = Begins-same c.args.circuit.now;
    }

pub loop-production-preserved-then-not-is_offered : goal.loop-production-preserved-then-not-is_offered
loop-production-preserved-then-not-is_offered c =
    let i = c.loop-production.production-index in
    let p = c.production-item.result in
    let ps = c.productions-productions.result.now in
    let inv = c.loop-production.invariant in
    let hasnt : is_offered c.args.below p ≡ false = sym c.is_offered.ensures ∙ c.if-not-is_offered.true in
    let same = offered-passed c.args.below i p ps c.loop-production-test.true c.production-item.is hasnt in
    record {
      follows = λ rest end h. inv.follows rest end (rw same h);
      word = inv.word;
      stand = rw same at inv.stand;
      selectors = rw same at inv.selectors;
      grows = rw same at inv.grows;
      begins = inv.begins;
    }
