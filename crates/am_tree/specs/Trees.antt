-- What a tree derives from, and the term that it gives.
use Rattle.std.specs.Prelude.{ℕ, zero, suc, ◌≡◌, List, [], ◌∷◌, Option, Some, None, MatchOption, map, slice_get}
use Rattle.std.specs.Prelude.{slice_index_or}
use Rattle.std.specs.List.{AllZip}
use Rattle.am_bv.specs.declared.term.Term.{Term}
use Rattle.am_bv.specs.declared.term.Term.TheVariants.{Const, Node as NodeTerm}
use Rattle.am_tree.specs.declared.grammar.Production.{Production}
use Rattle.am_tree.specs.declared.grammar.Production.TheVariants.{Leaf, Node}
use Rattle.am_tree.specs.declared.tree.Tree.{Tree, fold-Tree, out-Tree, roll-Tree}
use Rattle.am_tree.specs.declared.tree.Tree.TheOpen.{Tree-F}

-- the productions of each nonterminal
abbrev pub Rules : Type 0
Rules = List (List Production)

-- the production with this number of a nonterminal, if it has one
abbrev pub production_at : Rules → ℕ → ℕ → Option Production
production_at rules n p = slice_get (slice_index_or rules n []) p

-- the number of the production at a tree's root
abbrev pub production_of : Tree → ℕ
production_of t = (out-Tree t).production

-- the trees below a tree's root
abbrev pub children_of : Tree → List Tree
children_of t = (out-Tree t).children

-- the tree of a production and its children
abbrev pub tree : ℕ → List Tree → Tree
tree p children = roll-Tree (record { production = p; children = children })

-- the children are those of the production, each one derived as D says of its nonterminal
abbrev pub AreDerived : (ℕ → Tree → Type 0) → Option Production → List Tree → Type 0
AreDerived D None children = ⊥
AreDerived D (Some (Leaf t)) children = children ≡ []
AreDerived D (Some (Node op names)) children = AllZip D names children

-- the tree derives from the nonterminal with the depth
abbrev pub Derives : Rules → ℕ → ℕ → Tree → Type 0
Derives rules zero n t = ⊥
Derives rules (suc d) n t = AreDerived (Derives rules d) (production_at rules n (production_of t)) (children_of t)

-- the term of each child at its nonterminal
abbrev pub terms_at : List ℕ → List (ℕ → Term) → List Term
terms_at [] children = []
terms_at (n ∷ ns) [] = []
terms_at (n ∷ ns) (child ∷ children) = child n ∷ terms_at ns children

-- the term of a production with the children's terms for its nonterminals; 0 where there is no production
abbrev pub term_by : Option Production → List (ℕ → Term) → Term
term_by None children = Const 0
term_by (Some (Leaf t)) children = t
term_by (Some (Node op names)) children = NodeTerm op (terms_at names children)

-- the term of a root, from what its children give at each nonterminal
abbrev pub term_step : Rules → Tree-F (ℕ → Term) → ℕ → Term
term_step rules t n = term_by (production_at rules n t.production) t.children

-- the term of a tree of a nonterminal
unfoldable pub term_of : Rules → ℕ → Tree → Term
term_of rules n t = fold-Tree (ℕ → Term) (term_step rules) t n

-- the tree derives from the nonterminal with some depth
pub record HasDerivation (rules : Rules) (n : ℕ) (t : Tree) : Type 0 where
  pub depth : ℕ
  pub derives : Derives rules depth n t

-- the tree derives from the nonterminal with the depth, and gives the term
pub record IsTreeOf (rules : Rules) (depth n : ℕ) (term : Term) (t : Tree) : Type 0 where
  pub derives : Derives rules depth n t
  pub gives : term_of rules n t ≡ term

-- a tree that gives the term, or None where no tree does
abbrev pub IsFound : Rules → ℕ → ℕ → Term → Option Tree → Type 0
IsFound rules depth n term found =
    MatchOption found ((t : Tree) → ¬ IsTreeOf rules depth n term t) (IsTreeOf rules depth n term)

-- a tuple of trees, one from each start with the depth
abbrev pub AreTrees : Rules → List ℕ → ℕ → List Tree → Type 0
AreTrees rules starts depth ts = AllZip (Derives rules depth) starts ts

-- the terms of a tuple of trees
abbrev pub terms_of : Rules → List ℕ → List Tree → List Term
terms_of rules starts ts = terms_at starts (map (λ t n. term_of rules n t) ts)
