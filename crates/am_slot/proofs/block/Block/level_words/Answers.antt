use Rattle.std.proofs.Common.{suc, ◌≡◌, ◌+◌, ◌-◌, ◌≤◌, List, [], drop, length, get_or, refl, sym, ◌∙◌, ap, arith, subst}
use Rattle.std.proofs.lemmas.List.{length-take, length-drop, drop-drop, drop_all}
use Rattle.std.proofs.lemmas.List.Elements.{All-nil, All-cons, All-take, All-drop}
use Rattle.am_gate.specs.Build.{Follows}
use Rattle.am_gate.proofs.Laws.{Grows-same, Grows-trans, HasRoom-grown, Begins-same, Begins-trans}
use Rattle.am_blast.specs.Words.{IsWord}
use Rattle.am_blast.proofs.Laws.{IsWord-later}
use Rattle.am_tree.specs.declared.slots.Argument.{Argument}
use Rattle.am_tree.specs.Slots.{shared}
use Rattle.am_slot.specs.Selectors.{width}
use Rattle.am_slot.specs.Blocks.{level_words}
use Rattle.am_slot.proofs.Levels.{back, Follows-level, Follows-no_slot}
use Rattle.am_slot.proofs.block.Block.level_words.Goals as goal

pub loop-i-init : goal.loop-i-init
loop-i-init c =
    let ns = c.args.symbols.now in
    let w = c.args.self.now.width in
    let full : length ns ≤ length ns = omega arith in
    let none : drop (length ns) ns ≡ [] = drop_all (length ns) ns full in
    record {
      place = omega arith;
      follows =
          rw (none, c.new-words.ensures.items)
          (Follows-no_slot c.args.self.now.rules.now w c.args.self.now.fields.now c.args.below c.args.end _
          c.args.circuit.now);
      last = rw none (omega arith);
      selector = rw none (omega arith);
      many = rw (none, c.new-words.ensures.items) refl;
      each = rw c.new-words.ensures.items (All-nil (IsWord w c.args.circuit.now.vars));
      grows = rw none (Grows-same c.args.circuit.now);
      begins = Begins-same c.args.circuit.now;
    }

pub overflow_sub-first : goal.overflow_sub-first
overflow_sub-first c =
    let i = c.loop-i.i in
    let ns = c.args.symbols.now in
    let b =
    back c.args.self.now.rules.now c.args.below ns i c.args.self.now.width c.loop-i-test.true
    c.loop-i.invariant.place in
    let kids = ap (λ (ks : List Argument). length ks) c.children.ensures in
    omega (arith, kids, b.children, b.most_children, c.requires.count, c.loop-i.invariant.last)

pub overflow_sub-selector : goal.overflow_sub-selector
overflow_sub-selector c =
    let i = c.loop-i.i in
    let ns = c.args.symbols.now in
    let b =
    back c.args.self.now.rules.now c.args.below ns i c.args.self.now.width c.loop-i-test.true
    c.loop-i.invariant.place in
    omega (arith, c.width-selector.ensures.value, b.wide, b.most_wide, c.requires.widths, c.loop-i.invariant.selector)

pub slot_word-requires-clause-count : goal.slot_word-requires-clause-count
slot_word-requires-clause-count c =
    let i = c.loop-i.i in
    let ns = c.args.symbols.now in
    let b =
    back c.args.self.now.rules.now c.args.below ns i c.args.self.now.width c.loop-i-test.true
    c.loop-i.invariant.place in
    let kids = ap (λ (ks : List Argument). length ks) c.children.ensures in
    let last = c.loop-i.last in
    let k = length c.children.result.now in
    let few : k ≤ last = omega (arith, kids, b.children, b.most_children, c.requires.count, c.loop-i.invariant.last) in
    let t = length-take (last - (last - k)) (drop (last - k) c.args.next.now) in
    let d = length-drop (last - k) c.args.next.now in
    omega (arith, t, d, few, kids, c.loop-i.invariant.last)

pub slot_word-requires-clause-words : goal.slot_word-requires-clause-words
slot_word-requires-clause-words c =
    let w = c.args.self.now.width in
    All-take (IsWord w c.loop-i.circuit.vars) _ _ (All-drop (IsWord w c.loop-i.circuit.vars) _ c.args.next.now
    (λ k d l. IsWord-later w c.args.circuit.now.vars c.loop-i.circuit.vars _ c.loop-i.invariant.grows.not_less
    (c.requires.next k d l)))

pub slot_word-requires-clause-room : goal.slot_word-requires-clause-room
slot_word-requires-clause-room c =
    let i = c.loop-i.i in
    let ns = c.args.symbols.now in
    let b =
    back c.args.self.now.rules.now c.args.below ns i c.args.self.now.width c.loop-i-test.true
    c.loop-i.invariant.place in
    HasRoom-grown _ c.loop-i.invariant.grows c.requires.room (omega (arith, b.weight, b.most_weight))

pub loop-i-preserved : goal.loop-i-preserved
loop-i-preserved c =
    let i = c.loop-i.i in
    let ns = c.args.symbols.now in
    let n = get_or ns (i - 1) 0 in
    let rules = c.args.self.now.rules.now in
    let fields = c.args.self.now.fields.now in
    let w = c.args.self.now.width in
    let below = c.args.below in
    let next = c.args.next.now in
    let b = back rules below ns i w c.loop-i-test.true c.loop-i.invariant.place in
    let kids = ap (λ (ks : List Argument). length ks) c.children.ensures in
    let inv = c.loop-i.invariant in
    let last = c.loop-i.last in
    let k = length c.children.result.now in
    let word = c.in_ok-word.ensures.ok in
    let same_k : k ≡ length (shared rules below n) = omega (arith, kids) in
    let few : k ≤ last = omega (arith, same_k, b.children, b.most_children, c.requires.count, inv.last) in
    let wide = c.width-selector.ensures.value in
    let sel : c.loop-i.selector ≡ (c.loop-i.selector - c.width-selector.result) + width rules below n =
    omega (arith, wide, b.wide, b.most_wide, c.requires.widths, inv.selector) in
    let place : (last - k) + length (shared rules below n) ≡ last = omega (arith, same_k, few) in
    let rest : drop last next ≡ drop (length (shared rules below n)) (drop (last - k) next) =
    sym (drop-drop (length (shared rules below n)) (last - k) next ∙ ap (λ j. drop j next) place) in
    let size : last - (last - k) ≡ length (shared rules below n) = omega (arith, same_k, few) in
    let one =
    subst
    (λ x. Follows
    (level_words rules w fields below x (drop i ns)
    (drop (length (shared rules below n)) (drop (last - k) next)))
    c.args.circuit.now c.loop-i.words.items c.loop-i.circuit)
    sel (rw rest at inv.follows) in
    let two = rw size at word.follows in
    let items = c.in_ok-insert.ensures.items in
    record {
      place = omega (arith, inv.place);
      follows =
          rw (b.items, items)
          (Follows-level rules w fields below (c.loop-i.selector - c.width-selector.result) n (drop i ns)
          (drop (last - k) next) _ _ _ _ _ one two);
      last = omega (arith, b.children, few, same_k, inv.last);
      selector = omega (arith, sel, b.wide, wide, inv.selector);
      many = rw (b.items, items) (ap suc inv.many);
      each =
          rw items
          (All-cons (IsWord w c.slot_word.new.circuit.vars) _ _ word.given
          (λ j d l. IsWord-later w _ _ _ word.grows.not_less (inv.each j d l)));
      grows = Grows-trans _ inv.grows word.grows (omega (arith, b.weight));
      begins = Begins-trans inv.begins c.in_ok-word.ensures.begins;
    }
