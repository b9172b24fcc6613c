-- All trees of a nonterminal, and all tuples of trees, in order.
use Rattle.std.specs.Prelude.{ℕ, zero, suc, List, [], ◌∷◌, map, slice_index_or}
use Rattle.std.specs.List.{flat_map}
use Rattle.am_tree.specs.declared.grammar.Production.{Production}
use Rattle.am_tree.specs.declared.grammar.Production.TheVariants.{Leaf, Node}
use Rattle.am_tree.specs.declared.tree.Tree.{Tree}
use Rattle.am_tree.specs.Slots.{numbered}
use Rattle.am_tree.specs.Trees.{Rules, tree}

-- the lists that take one item from each of the lists, ordered by the first item, then by the second, and so on
abbrev pub choices : {A : Type 0} → List (List A) → List (List A)
choices [] = [] ∷ []
choices (xs ∷ rest) = flat_map (λ x. map (λ others. x ∷ others) (choices rest)) xs

-- the trees of a production with a number, where a function lists the trees of each nonterminal for the children
abbrev pub trees_by : (ℕ → List Tree) → ℕ → Production → List Tree
trees_by f i (Leaf t) = tree i [] ∷ []
trees_by f i (Node op names) = map (tree i) (choices (map f names))

-- the trees that derive from a nonterminal with a depth, ordered by their productions, then by the first child, then
-- by the second, and so on
unfoldable pub trees_of : Rules → ℕ → ℕ → List Tree
trees_of rules zero n = []
trees_of rules (suc d) n =
    flat_map (λ p. trees_by (trees_of rules d) p.number p.production) (numbered 0 (slice_index_or rules n []))

-- the tuples of trees from the starts with a depth, ordered by the first tree, then by the second, and so on
abbrev pub tuples_of : Rules → List ℕ → ℕ → List (List Tree)
tuples_of rules starts depth = choices (map (trees_of rules depth) starts)
