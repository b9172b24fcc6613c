-- Sums over all slots, where a slot counts by its nonterminal.
use Rattle.std.specs.Prelude.{◌≡◌, ℕ, zero, suc, ◌+◌, ◌≤◌, ⊤, List, All, length, sum_by}
use Rattle.am_bv.specs.Terms.{nodes}
use Rattle.am_tree.specs.declared.grammar.Production.{Production}
use Rattle.am_tree.specs.declared.grammar.Production.TheVariants.{Leaf, Node}
use Rattle.am_tree.specs.Trees.{Rules}
use Rattle.am_tree.specs.Slots.{arguments, next_level, AreInside}

-- the sum over a level and those below it, where last counts on the last level and inner above it
unfoldable pub total : Rules → (ℕ → ℕ) → (ℕ → ℕ) → ℕ → List ℕ → ℕ
total rules last inner zero ns = sum_by last ns
total rules last inner (suc below) ns = sum_by inner ns + total rules last inner below (next_level rules (suc below) ns)

-- a leaf has at most 64 nodes
abbrev pub HasSmallLeaf : Production → Type 0
HasSmallLeaf (Leaf t) = nodes t ≤ 64
HasSmallLeaf (Node op names) = ⊤

-- the bounds that the rules of a grammar keep
pub record HasBounds (rules : Rules) : Type 0 where
  pub count : length rules ≤ 16
  pub few : All (λ ps. length ps ≤ 64) rules
  pub short : All (λ ps. All (λ p. length (arguments p) ≤ 3) ps) rules
  pub small : All (λ ps. All HasSmallLeaf ps) rules
  pub inside : AreInside (length rules) rules

-- so many numbers, none above the greatest
pub record AreBoundedTotals (count greatest : ℕ) (numbers : List ℕ) : Type 0 where
  pub len : length numbers ≡ count
  pub most : All (λ x. x ≤ greatest) numbers
