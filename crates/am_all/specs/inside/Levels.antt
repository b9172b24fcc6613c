-- What is told of nonterminals that have no tree.
use Rattle.std.specs.Prelude.{◌≡◌, ℕ, ◌<◌, Bool, true, false, List, [], length, slice_index_or}
use Rattle.am_tree.specs.Trees.{Rules}
use Rattle.am_tree.specs.declared.tree.Tree.{Tree}
use Rattle.am_tree.specs.Listed.{trees_of}

-- where a nonterminal's entry is false, a function lists no tree for it
abbrev pub IsToldLevel : (ℕ → List Tree) → List Bool → Type 0
IsToldLevel f level = (n : ℕ) → slice_index_or level n true ≡ false → f n ≡ []

-- each level tells of the trees with the depth that is its place
abbrev pub AreLevels : Rules → List (List Bool) → Type 0
AreLevels rules levels = (d : ℕ) → d < length levels → IsToldLevel (trees_of rules d) (slice_index_or levels d [])
