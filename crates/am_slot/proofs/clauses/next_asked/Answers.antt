use Rattle.std.proofs.Common.{◌<◌, length, append_assoc, arith}
use Rattle.am_slot.proofs.Listing.{symbol-in, asked-from, symbols-from}
use Rattle.am_slot.proofs.clauses.next_asked.Goals as goal

pub push_children-requires-clause-symbol : goal.push_children-requires-clause-symbol
push_children-requires-clause-symbol c =
    symbol-in (λ n. n < length c.args.rules.now) c.args.level.now c.loop-slot.slot-index c.slot-item.result
    c.loop-slot-test.true c.slot-item.is c.requires.symbols

pub push_children-requires-clause-selectors : goal.push_children-requires-clause-selectors
push_children-requires-clause-selectors c =
    omega (
      arith,
      symbols-from c.args.rules.now c.args.below c.loop-slot.slot-index c.args.level.now c.slot-item.result
          c.loop-slot-test.true c.slot-item.is,
      c.loop-slot.invariant.selectors,
      c.requires.selectors,
    )

pub width-selector-requires : goal.width-selector-requires
width-selector-requires c =
    symbol-in (λ n. n < length c.args.rules.now) c.args.level.now c.loop-slot.slot-index c.slot-item.result
    c.loop-slot-test.true c.slot-item.is c.requires.symbols

pub loop-slot-preserved : goal.loop-slot-preserved
loop-slot-preserved c =
    let rules = c.args.rules.now in
    let below = c.args.below in
    let i = c.loop-slot.slot-index in
    let s = c.slot-item.result in
    let size = c.width-selector.ensures.value in
    let step = asked-from rules below i c.args.level.now s c.loop-slot-test.true c.slot-item.is c.loop-slot.selector in
    record {
      follows = rw (c.in_ok-push_children.ensures, size, append_assoc, ← step) c.loop-slot.invariant.follows;
      selectors =
          omega (
            arith,
            size,
            symbols-from rules below i c.args.level.now s c.loop-slot-test.true c.slot-item.is,
            c.loop-slot.invariant.selectors,
          );
    }
