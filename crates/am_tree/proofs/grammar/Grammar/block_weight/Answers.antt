use Rattle.std.proofs.Common.{◌≡◌, ℕ, ◌-◌, ◌<◌, ◌∙◌, sym, arith, length}
use Rattle.std.specs.Prelude.{slice_index}
use Rattle.std.proofs.lemmas.List.Elements.{recursion_from_All}
use Rattle.am_tree.proofs.Bounds.{index-most}
use Rattle.am_tree.proofs.Formed.{bounds, inside}
use Rattle.am_tree.proofs.Totals.{weight_at, total-same, total-ones, total-weights, total-most}
use Rattle.am_tree.proofs.grammar.Grammar.block_weight.Goals as goal

pub slot_weights-requires : goal.slot_weights-requires
slot_weights-requires c = rw c.as_slice-rules.ensures (bounds c.args.self.now.well_formed)

pub slot_weights-requires-2 : goal.slot_weights-requires-2
slot_weights-requires-2 c = rw c.as_slice-rules.ensures (bounds c.args.self.now.well_formed)

pub returns-clause-value : goal.returns-clause-value
returns-clause-value c =
    let g = c.args.self.now in
    let n = length g.rules in
    let last = slice_index c.slot_weights.result.items in
    let inner = slice_index c.slot_weights-2.result.items in
    let lasts : (m : ℕ) → m < n → last m ≡ weight_at g.rules c.args.w 0 m =
    rw c.as_slice-rules.ensures at c.slot_weights.ensures.each in
    let inners : (m : ℕ) → m < n → inner m ≡ weight_at g.rules c.args.w 1 m =
    rw c.as_slice-rules.ensures at c.slot_weights-2.ensures.each in
    c.total.ensures
    ∙ total-same g.rules n last inner (weight_at g.rules c.args.w 0) (weight_at g.rules c.args.w 1) lasts inners
    (inside g.rules g.starts g.depth g.well_formed) (g.depth - 1) g.starts
    (recursion_from_All (λ m. m < n) g.starts g.well_formed.starts_in)
    ∙ sym (total-weights g.rules c.args.w (g.depth - 1) g.starts)

pub returns-clause-most : goal.returns-clause-most
returns-clause-most c =
    let g = c.args.self.now in
    omega (
      arith,
      c.total.ensures,
      total-most g.rules (slice_index c.slot_weights.result.items) (slice_index c.slot_weights-2.result.items)
          (index-most 2097152 c.slot_weights.result.items c.slot_weights.ensures.numbers.most)
          (index-most 2097152 c.slot_weights-2.result.items c.slot_weights-2.ensures.numbers.most) (g.depth - 1)
          g.starts,
      total-ones g.rules (g.depth - 1) 1 0 g.starts,
    )
