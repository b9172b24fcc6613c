-- The trees that truth values of the selectors choose: one for each slot, from the last level up.
use Rattle.std.specs.Prelude.{ℕ, zero, suc, ◌+◌, Bool, List, [], ◌∷◌, length, map, take, drop, Option, Some, None}
use Rattle.std.specs.Prelude.{if◌then◌else◌, slice_index_or}
use Rattle.am_tree.specs.declared.tree.Tree.{Tree}
use Rattle.am_tree.specs.Trees.{Rules, tree}
use Rattle.am_tree.specs.declared.slots.Argument.{Argument}
use Rattle.am_tree.specs.Slots.{Numbered, offered, arguments, shared, next_level, at_argument}
use Rattle.am_slot.specs.Selectors.{width, widths}

-- the last production whose selector is true, where x is the first one's selector
abbrev pub picked : (ℕ → Bool) → ℕ → Option Numbered → List Numbered → Option Numbered
picked v x last [] = last
picked v x last (p ∷ ps) = picked v (x + 1) (if v x then Some p else last) ps

-- a tree of no production
abbrev pub no_tree : Rules → ℕ → Tree
no_tree rules n = tree (length (slice_index_or rules n [])) []

-- the tree of a production over the trees of its slot's children
abbrev pub tree_by : Rules → ℕ → List Argument → List Tree → Option Numbered → Tree
tree_by rules n children below None = no_tree rules n
tree_by rules n children below (Some p) =
    tree p.number (map (at_argument (no_tree rules n) children below) (arguments p.production))

-- one tree for each slot of a level, over the trees of the next level
abbrev pub level_trees : Rules → (ℕ → Bool) → ℕ → ℕ → List ℕ → List Tree → List Tree
level_trees rules v below x [] next = []
level_trees rules v below x (n ∷ ns) next =
    tree_by rules n (shared rules below n) (take (length (shared rules below n)) next)
    (picked v x None (offered rules below n))
    ∷ level_trees rules v below (x + width rules below n) ns (drop (length (shared rules below n)) next)

-- one tree for each slot of a level with so many levels below it, where x is its first selector
unfoldable pub trees : Rules → (ℕ → Bool) → ℕ → ℕ → List ℕ → List Tree
trees rules v zero x ns = level_trees rules v zero x ns []
trees rules v (suc below) x ns =
    level_trees rules v (suc below) x ns
    (trees rules v below (x + widths rules (suc below) ns) (next_level rules (suc below) ns))
