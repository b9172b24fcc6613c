use Rattle.std.proofs.Common.{◌≡◌, ℕ, ◌-◌, ◌<◌, ◌∙◌, sym, arith, length}
use Rattle.std.specs.Prelude.{slice_index}
use Rattle.std.proofs.lemmas.List.Elements.{recursion_from_All}
use Rattle.am_tree.proofs.Formed.{inside}
use Rattle.am_tree.proofs.Totals.{total-same, total-ones}
use Rattle.am_tree.proofs.grammar.Grammar.slots.Goals as goal

pub returns : goal.returns
returns c =
    let g = c.args.self.now in
    let k = length g.rules in
    let last = slice_index c.ones.result.items in
    let inner = slice_index c.ones-2.result.items in
    let lasts : (n : ℕ) → n < k → last n ≡ 1 =
    λ n l. c.ones.ensures.each n 0 (omega (arith, l, c.ones.ensures.len, c.len-count.ensures)) in
    let inners : (n : ℕ) → n < k → inner n ≡ 1 =
    λ n l. c.ones-2.ensures.each n 0 (omega (arith, l, c.ones-2.ensures.len, c.len-count.ensures)) in
    c.total.ensures
    ∙ total-same g.rules k last inner (λ _. 1) (λ _. 1) lasts inners (inside g.rules g.starts g.depth g.well_formed)
    (g.depth - 1) g.starts
    (recursion_from_All (λ n. n < k) g.starts g.well_formed.starts_in)
    ∙ sym (total-ones g.rules (g.depth - 1) 1 0 g.starts)
