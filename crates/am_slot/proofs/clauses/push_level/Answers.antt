use Rattle.std.proofs.Common.{◌<◌, ℕ, List, ◌+◌, drop, length, length-append, append_assoc, sym, ◌∙◌, ap, arith}
use Rattle.am_tree.specs.Slots.{offered}
use Rattle.am_slot.specs.Selectors.{width, selectors}
use Rattle.am_slot.specs.Clauses.{slot_clauses, level_clauses}
use Rattle.am_slot.proofs.Listing.{symbol-in, selectors-range, level-from, symbols-from}
use Rattle.am_slot.proofs.clauses.push_level.Goals as goal

pub width-width-requires : goal.width-width-requires
width-width-requires c =
    symbol-in (λ n. n < length c.args.rules.now) c.args.level.now c.loop-slot.slot-index c.slot-item.result
    c.loop-slot-test.true c.slot-item.is c.requires.symbols

pub push_slot-requires : goal.push_slot-requires
push_slot-requires c =
    let rules = c.args.rules.now in
    let below = c.args.below in
    let i = c.loop-slot.slot-index in
    let x = c.loop-slot.selector in
    let s = c.slot-item.result in
    let ps = offered rules below s.symbol in
    let size = c.width-width.ensures.value in
    let own = c.as_slice.ensures.value ∙ (rw size at c.in_ok-own.ensures) ∙ sym (selectors-range x ps) in
    let step = level-from rules below i c.args.level.now s c.loop-slot-test.true c.slot-item.is x in
    rw own (omega (
      arith,
      ap (λ (cs : List (List ℕ)). length cs) c.loop-slot.invariant.follows,
      length-append c.loop-slot.clauses (level_clauses rules below x (drop i c.args.level.now)),
      length-append c.args.clauses.now (level_clauses rules below c.args.x c.args.level.now),
      ap (λ (cs : List (List ℕ)). length cs) step,
      length-append (slot_clauses s.by (selectors x ps))
          (level_clauses rules below (x + width rules below s.symbol) (drop (i + 1) c.args.level.now)),
      c.requires.room,
    ))

pub loop-slot-preserved : goal.loop-slot-preserved
loop-slot-preserved c =
    let rules = c.args.rules.now in
    let below = c.args.below in
    let i = c.loop-slot.slot-index in
    let x = c.loop-slot.selector in
    let s = c.slot-item.result in
    let ps = offered rules below s.symbol in
    let size = c.width-width.ensures.value in
    let own = c.as_slice.ensures.value ∙ (rw size at c.in_ok-own.ensures) ∙ sym (selectors-range x ps) in
    let step = level-from rules below i c.args.level.now s c.loop-slot-test.true c.slot-item.is x in
    record {
      follows = rw (c.in_ok-push_slot.ensures, own, size, append_assoc, ← step) c.loop-slot.invariant.follows;
      selectors =
          omega (
            arith,
            size,
            symbols-from rules below i c.args.level.now s c.loop-slot-test.true c.slot-item.is,
            c.loop-slot.invariant.selectors,
          );
    }
