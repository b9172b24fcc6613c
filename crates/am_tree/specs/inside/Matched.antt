-- What stands in the tables by which a term is matched.
use Rattle.std.specs.Prelude.{ℕ, ◌≡◌, List, [], Option, Some, None, MatchOption, map, slice_index_or}
use Rattle.std.specs.List.{AllZip}
use Rattle.am_bv.specs.declared.term.Term.{Term, out-Term}
use Rattle.am_bv.specs.declared.term.Term.TheOpen.{Term-F, Const, Field, Node}
use Rattle.am_tree.specs.declared.grammar.Production.{Production}
use Rattle.am_tree.specs.declared.tree.Tree.{Tree}
use Rattle.am_tree.specs.Trees.{Rules, Derives, AreDerived, term_of, terms_at, term_by, IsFound}

-- the arguments at the root of a term that is open there
abbrev pub arguments_by : Term-F Term → List Term
arguments_by (Const c) = []
arguments_by (Field i) = []
arguments_by (Node op args) = args

-- the arguments of a term, none of a leaf
abbrev pub arguments_of : Term → List Term
arguments_of t = arguments_by (out-Term t)

-- a table has at each nonterminal a tree of the term, or None where there is none
abbrev pub AreFound : Rules → ℕ → Term → List (Option Tree) → Type 0
AreFound rules d term table = (n : ℕ) → IsFound rules d n term (slice_index_or table n None)

-- the tree of a nonterminal in the table at a place, or None
abbrev pub tree_at : List (List (Option Tree)) → ℕ → ℕ → Option Tree
tree_at tables place n = slice_index_or (slice_index_or tables place []) n None

-- what trees give at any nonterminal
abbrev pub givers : Rules → List Tree → List (ℕ → Term)
givers rules ts = map (λ t n. term_of rules n t) ts

-- the trees are children with which the production makes the term
pub record Produces (rules : Rules) (d : ℕ) (p : Production) (term : Term) (ts : List Tree) : Type 0 where
  pub derived : AreDerived (Derives rules d) (Some p) ts
  pub gives : term_by (Some p) (givers rules ts) ≡ term

-- children with which the production makes the term, or None where there are none
abbrev pub AreChildren : Rules → ℕ → Production → Term → Option (List Tree) → Type 0
AreChildren rules d p term found =
    MatchOption found ((ts : List Tree) → ¬ Produces rules d p term ts) (Produces rules d p term)

-- the trees derive from the nonterminals, and give the terms
pub record Joins (rules : Rules) (d : ℕ) (names : List ℕ) (args : List Term) (ts : List Tree) : Type 0 where
  pub derived : AllZip (Derives rules d) names ts
  pub gives : terms_at names (givers rules ts) ≡ args

-- trees from the nonterminals that give the terms, or None where there are none
abbrev pub AreJoinedTrees : Rules → ℕ → List ℕ → List Term → Option (List Tree) → Type 0
AreJoinedTrees rules d names args found =
    MatchOption found ((ts : List Tree) → ¬ Joins rules d names args ts) (Joins rules d names args)
