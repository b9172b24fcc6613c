-- A block weighs what the slots of the layout weigh together.
use Rattle.std.proofs.Common.{◌≡◌, ℕ, zero, suc, ◌+◌, List, [], ◌∷◌, length, map, sum_by, refl, sym, ap, arith}
use Rattle.std.specs.List.{AllByRecursion}
use Rattle.std.proofs.lemmas.List.Sums.{sum_by-cons, sum_by-append}
use Rattle.am_tree.specs.Slots.{Numbered, level_slots, next_level, offered, shared, slot_at, slots_from}
use Rattle.am_tree.specs.Trees.{Rules, production_at}
use Rattle.am_tree.specs.Weights.{block_weight, level_weight, production_weight, slot_weight, weight_if, weight_in}
use Rattle.am_tree.proofs.Offers.{IsOffered, are_offered}

module _ (rules : Rules) (w : ℕ) where
  -- productions weigh the same by their numbers
  numbers-weigh : (below n : ℕ) (qs : List Numbered) → AllByRecursion (IsOffered rules below n) qs →
      sum_by (λ i. weight_if w (production_at rules n i) + w) (map (λ (q : Numbered). q.number) qs) ≡ slot_weight w qs
  numbers-weigh below n [] are = refl
  numbers-weigh below n (q ∷ qs) are =
      let one : weight_if w (production_at rules n q.number) ≡ production_weight w q.production =
      ap (weight_if w) are.0.at in
      omega (
        arith,
        sum_by-cons (λ i. weight_if w (production_at rules n i) + w) q.number (map (λ (q : Numbered). q.number) qs),
        sum_by-cons (λ (p : Numbered). production_weight w p.production + w) q qs,
        one,
        numbers-weigh below n qs are.1,
      )

  level-weighs : (below level child : ℕ) (ns : List ℕ) →
      sum_by (weight_in rules w) (level_slots rules below level child ns) ≡ level_weight rules w below ns
  level-weighs below level child [] = refl
  level-weighs below level child (n ∷ ns) =
      let next = child + length (shared rules below n) in
      let own : weight_in rules w (slot_at rules below level child n) ≡ slot_weight w (offered rules below n) =
      numbers-weigh below n (offered rules below n) (are_offered rules n below) in
      omega (
        arith,
        sum_by-cons (weight_in rules w) (slot_at rules below level child n) (level_slots rules below level next ns),
        sum_by-cons (λ m. slot_weight w (offered rules below m)) n ns,
        own,
        level-weighs below level next ns,
      )

  -- the slots of a level and of those below it
  pub block-weighs : (below level first : ℕ) (ns : List ℕ) →
      block_weight rules w below ns ≡ sum_by (weight_in rules w) (slots_from rules below level first ns)
  unfolding block_weight slots_from
  block-weighs zero level first ns = sym (level-weighs zero level (first + length ns) ns)
  block-weighs (suc below) level first ns =
      let child = first + length ns in
      let more = slots_from rules below (level + 1) child (next_level rules (suc below) ns) in
      omega (
        arith,
        level-weighs (suc below) level child ns,
        sum_by-append (weight_in rules w) (level_slots rules (suc below) level child ns) more,
        block-weighs below (level + 1) child (next_level rules (suc below) ns),
      )
