-- How many trees derive, where two trees with one term count twice.
use Rattle.std.specs.Prelude.{ℕ, zero, suc, ◌*◌, List, [], ◌∷◌, sum_by, slice_index_or}
use Rattle.am_tree.specs.declared.grammar.Production.{Production}
use Rattle.am_tree.specs.declared.grammar.Production.TheVariants.{Leaf, Node}
use Rattle.am_tree.specs.Trees.{Rules}

-- the product of the numbers that a function gives
abbrev pub product_by : (ℕ → ℕ) → List ℕ → ℕ
product_by f [] = 1
product_by f (n ∷ ns) = f n * product_by f ns

-- the number of trees of a production, where a function gives that of each nonterminal's trees for the arguments
abbrev pub production_count : (ℕ → ℕ) → Production → ℕ
production_count f (Leaf t) = 1
production_count f (Node op names) = product_by f names

-- the number of trees that derive from a nonterminal with a depth
unfoldable pub tree_count : Rules → ℕ → ℕ → ℕ
tree_count rules zero n = 0
tree_count rules (suc d) n = sum_by (production_count (tree_count rules d)) (slice_index_or rules n [])

-- the number of tuples of trees, one from each start
abbrev pub tuple_count : Rules → List ℕ → ℕ → ℕ
tuple_count rules starts depth = product_by (tree_count rules depth) starts
