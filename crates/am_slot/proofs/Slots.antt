-- The selectors are those of the slots of the layout.
use Rattle.std.proofs.Common.{◌≡◌, ℕ, zero, suc, ◌+◌, ◌-◌, List, [], ◌∷◌, length, refl, sym, ◌∙◌}
use Rattle.std.specs.Prelude.{sum_by}
use Rattle.std.proofs.lemmas.List.{length-map}
use Rattle.std.proofs.lemmas.List.Sums.{sum_by-cons, sum_by-append}
use Rattle.am_tree.specs.declared.slots.Slot.{Slot}
use Rattle.am_tree.specs.Trees.{Rules}
use Rattle.am_tree.specs.Slots.{Numbered, offered, shared, next_level, slot_at, level_slots, slots_from, layout_of}
use Rattle.am_slot.specs.Encoding.{Encoding}
use Rattle.am_slot.specs.Selectors.{width, widths, room}
use Rattle.am_slot.specs.Template.{selectors_of}

module _ (rules : Rules) where
  counted_level : (below level child : ℕ) (ns : List ℕ)
      → sum_by (λ s. length s.productions) (level_slots rules below level child ns) ≡ widths rules below ns
  counted_level below level child [] = refl
  counted_level below level child (n ∷ ns) =
      sum_by-cons (λ (s : Slot). length s.productions) (slot_at rules below level child n)
      (level_slots rules below level (child + length (shared rules below n)) ns)
      ∙ rw (
        length-map (offered rules below n) (λ (p : Numbered). p.number),
        counted_level below level (child + length (shared rules below n)) ns,
        sum_by-cons (width rules below) n ns,
      )
      refl

  counted_from : (below level first : ℕ) (ns : List ℕ)
      → sum_by (λ s. length s.productions) (slots_from rules below level first ns) ≡ room rules below ns
  unfolding slots_from room
  counted_from zero level first ns = counted_level zero level (first + length ns) ns
  counted_from (suc below) level first ns =
      sum_by-append (λ (s : Slot). length s.productions) (level_slots rules (suc below) level (first + length ns) ns) _
      ∙ rw (
        counted_level (suc below) level (first + length ns) ns,
        counted_from below (level + 1) (first + length ns) (next_level rules (suc below) ns),
      )
      refl

-- the selectors are as many as the productions of all slots
pub counted_layout : (e : Encoding)
    → selectors_of e ≡ sum_by (λ s. length s.productions) (layout_of e.rules e.starts e.depth)
counted_layout e = sym (counted_from e.rules (e.depth - 1) 1 0 e.starts)
