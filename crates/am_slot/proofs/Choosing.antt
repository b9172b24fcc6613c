-- The trees of a level and of those below it.
use Rattle.std.proofs.Common.{◌≡◌, ℕ, zero, suc, ◌+◌, ◌-◌, ◌<◌, Bool, List, [], ◌∷◌, None, map, take, drop, length}
use Rattle.std.proofs.Common.{length-append, get_or, refl, ◌∙◌, ap, arith}
use Rattle.std.proofs.lemmas.List.{length-map}
use Rattle.am_tree.specs.declared.tree.Tree.{Tree}
use Rattle.am_tree.specs.declared.slots.Argument.{Argument}
use Rattle.am_tree.specs.Trees.{Rules}
use Rattle.am_tree.specs.Slots.{offered, shared, next_level}
use Rattle.am_tree.proofs.Laws.{drop-from}
use Rattle.am_slot.specs.Selectors.{width, widths}
use Rattle.am_slot.specs.Decoded.{picked, tree_by, level_trees, trees}

module _ (rules : Rules) (v : ℕ → Bool) where
  length-level_trees : (below x : ℕ) (ns : List ℕ) (next : List Tree) →
      length (level_trees rules v below x ns next) ≡ length ns
  length-level_trees below x [] next = refl
  length-level_trees below x (n ∷ ns) next =
      ap suc (length-level_trees below (x + width rules below n) ns (drop (length (shared rules below n)) next))

  -- there is one tree for each slot of the level
  pub length-trees : (below x : ℕ) (ns : List ℕ) → length (trees rules v below x ns) ≡ length ns
  unfolding trees
  length-trees zero x ns = length-level_trees zero x ns []
  length-trees (suc below) x ns = length-level_trees (suc below) x ns _

  -- the trees of the last level need none below
  pub trees-zero : (below x : ℕ) (ns : List ℕ) → below ≡ 0 → trees rules v below x ns ≡ level_trees rules v 0 x ns []
  unfolding trees
  trees-zero zero x ns e = refl
  trees-zero (suc below) x ns e = absurd (omega (arith, e))

  less : (b : ℕ) → suc b - 1 ≡ b
  less b = omega arith

  -- the trees of another level stand over those of the next one
  pub trees-above : (below x : ℕ) (ns : List ℕ) → 0 < below →
      trees rules v below x ns
      ≡ level_trees rules v below x ns
      (trees rules v (below - 1) (x + widths rules below ns) (next_level rules below ns))
  unfolding trees
  trees-above zero x ns l = absurd (omega (arith, l))
  trees-above (suc below) x ns l = rw (less below) refl

  pub tree-from : (below x i n : ℕ) (ns : List ℕ) (next : List Tree) → i < length ns → n ≡ get_or ns i n →
      level_trees rules v below x (drop i ns) next ≡
      tree_by rules n (shared rules below n) (take (length (shared rules below n)) next)
      (picked v x None (offered rules below n))
      ∷ level_trees rules v below (x + width rules below n) (drop (i + 1) ns)
      (drop (length (shared rules below n)) next)
  tree-from below x i n ns next l e = ap (λ (ms : List ℕ). level_trees rules v below x ms next) (drop-from i n ns l e)

pub length-next : (rules : Rules) (below i n : ℕ) (ns : List ℕ) → i < length ns → n ≡ get_or ns i n →
    length (next_level rules below (drop i ns))
    ≡ length (shared rules below n) + length (next_level rules below (drop (i + 1) ns))
length-next rules below i n ns l e =
    ap (λ (ms : List ℕ). length (next_level rules below ms)) (drop-from i n ns l e)
    ∙ length-append (map (λ (a : Argument). a.symbol) (shared rules below n)) (next_level rules below (drop (i + 1) ns))
    ∙ ap (λ k. k + length (next_level rules below (drop (i + 1) ns)))
    (length-map (shared rules below n) (λ (a : Argument). a.symbol))
