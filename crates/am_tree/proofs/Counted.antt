-- Numbers of trees, as the loops over names and productions make them.
use Rattle.std.proofs.Common.{◌≡◌, ℕ, ◌+◌, ◌*◌, ◌<◌, List, [], ◌∷◌, ◌++◌, length, take, get_or, sum_by, All, sym, ◌∙◌}
use Rattle.std.proofs.Common.{ap, add-one}
use Rattle.std.specs.Prelude.{Option, slice_index_or}
use Rattle.std.specs.List.{AllByRecursion}
use Rattle.std.proofs.lemmas.List.{take_more}
use Rattle.std.proofs.lemmas.List.Elements.{All-from_recursion, recursion_from_All}
use Rattle.std.proofs.Math.Nat.{mul_assoc, mul-one, one-mul}
use Rattle.am_tree.specs.declared.slots.Argument.{Argument}
use Rattle.am_tree.specs.Counts.{product_by, production_count, tree_count}
use Rattle.am_tree.specs.Slots.{positioned}
use Rattle.am_tree.specs.Trees.{Rules}
use Rattle.am_tree.specs.inside.Counted.{AreCounts}

product-push : (f : ℕ → ℕ) (ns : List ℕ) (n : ℕ) → product_by f (ns ++ n ∷ []) ≡ product_by f ns * f n
product-push f [] n = mul-one (f n) ∙ sym (one-mul (f n))
product-push f (m ∷ ns) n = ap (λ k. f m * k) (product-push f ns n) ∙ sym (mul_assoc (f m) (product_by f ns) (f n))

-- one factor more
pub product-more : (f : ℕ → ℕ) (ns : List ℕ) (i : ℕ) → i < length ns →
    product_by f (take (i + 1) ns) ≡ product_by f (take i ns) * f (get_or ns i 0)
product-more f ns i l = ap (product_by f) (take_more ns i 0 l) ∙ product-push f (take i ns) (get_or ns i 0)

names-below : (k i : ℕ) (names : List ℕ) → AllByRecursion (λ (a : Argument). a.symbol < k) (positioned i names) →
    AllByRecursion (λ n. n < k) names
names-below k i [] h = tt
names-below k i (n ∷ names) h = (h.0, names-below k (i + 1) names h.1)

-- the nonterminals of arguments that are inside are inside
pub names-inside : (k i : ℕ) (names : List ℕ) → All (λ (a : Argument). a.symbol < k) (positioned i names) →
    All (λ n. n < k) names
names-inside k i names h =
    All-from_recursion (λ n. n < k) names
    (names-below k i names (recursion_from_All (λ (a : Argument). a.symbol < k) (positioned i names) h))

-- with depth 0 there is no tree
pub counts-zero : (rules : Rules) (counts : List (Option ℕ)) → AreCounts (λ _. 0) counts →
    AreCounts (tree_count rules 0) counts
unfolding tree_count
counts-zero rules counts h = h

-- with one level more, each production counts the tuples of its children
pub counts-suc : (rules : Rules) (d : ℕ) (counts : List (Option ℕ)) →
    AreCounts (λ n. sum_by (production_count (tree_count rules d)) (slice_index_or rules n [])) counts →
    AreCounts (tree_count rules (d + 1)) counts
unfolding tree_count
counts-suc rules d counts h = rw add-one h
