-- What a template encodes.
use Rattle.std.specs.Prelude.{ℕ, ◌≤◌, Bool, true, List, All, IsTrue}
use Rattle.am_bv.specs.Terms.{fits}
use Rattle.am_tree.specs.declared.grammar.Production.{Production}
use Rattle.am_tree.specs.declared.grammar.Production.TheVariants.{Leaf, Node}
use Rattle.am_tree.specs.Grammars.{IsGrammar}
use Rattle.am_tree.specs.Trees.{Rules}

-- the productions of each nonterminal, the start of each output field, the depth of the trees, and how
-- many bits a word has
pub record Encoding : Type 0 where
  pub rules : Rules
  pub starts : List ℕ
  pub depth : ℕ
  pub width : ℕ

-- the rules are a grammar of these starts and this depth, and words have some bit
pub record IsEncoding (e : Encoding) : Type 0 where
  pub grammar : IsGrammar e.rules e.starts e.depth
  pub some_bit : 1 ≤ e.width

-- a leaf is a term over so many fields
abbrev pub is_leaf_over : ℕ → ℕ → Production → Bool
is_leaf_over w count (Leaf t) = fits w count t
is_leaf_over w count (Node op names) = true

-- all leaves are terms over so many fields
abbrev pub AreOver : Encoding → ℕ → Type 0
AreOver e count = All (All (λ p. IsTrue (is_leaf_over e.width count p))) e.rules
