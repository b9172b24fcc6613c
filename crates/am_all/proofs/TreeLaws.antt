-- The listed trees are those that derive, and the listed tuples are the tuples of trees.
use Rattle.std.proofs.Common.{◌≡◌, ℕ, zero, suc, ◌+◌, inl, inr, ◌↔◌, List, [], ◌∷◌, map, refl, sym, ap, ◌∙◌, subst}
use Rattle.std.proofs.Common.{arith}
use Rattle.std.specs.Prelude.{Contains, Some, slice_get, slice_index_or}
use Rattle.std.specs.List.{AllZip, Any}
use Rattle.am_tree.specs.declared.grammar.Production.{Production}
use Rattle.am_tree.specs.declared.grammar.Production.TheVariants.{Leaf, Node}
use Rattle.am_tree.specs.declared.tree.Tree.{Tree}
use Rattle.am_tree.specs.declared.tree.Tree.TheOpen.{Tree-F}
use Rattle.am_tree.specs.Slots.{Numbered, numbered}
use Rattle.am_tree.specs.Trees.{AreDerived, AreTrees, Derives, Rules, children_of, production_of, tree}
use Rattle.am_tree.proofs.Laws.{derived_are_listed, out-tree, tuples_are_listed}
use Rattle.am_tree.specs.Listed.{choices, trees_by, trees_of, tuples_of}
use Rattle.am_all.proofs.Lists.{any-cases, any-contains, any-none}
use Rattle.am_all.proofs.PickLaws.{any-flat_map, any-map, choices-are}
use Rattle.am_all.proofs.TreeLists.{trees_from, trees_of-suc, trees_of-zero}

-- a production at its number

record AtNumber (P : Numbered → Type 0) (i : ℕ) (ps : List Production) : Type 0 where
  pub place : ℕ
  pub production : Production
  pub here : slice_get ps place ≡ Some production
  pub holds : P (record { number = i + place; production = production })

number-next : (i k : ℕ) (p : Production) →
    ◌≡◌ {A = Numbered} (record { number = i + 1 + k; production = p }) (record { number = i + suc k; production = p })
number-next i k p = ap (λ n. record { number = n; production = p }) (let e : i + 1 + k ≡ i + suc k = omega arith in e)

number-first : (i : ℕ) (p : Production) →
    ◌≡◌ {A = Numbered} (record { number = i; production = p }) (record { number = i + 0; production = p })
number-first i p = ap (λ n. record { number = n; production = p }) (let e : i ≡ i + 0 = omega arith in e)

any-numbered : (P : Numbered → Type 0) (i : ℕ) (ps : List Production) → Any P (numbered i ps) → AtNumber P i ps
any-numbered P i [] h = absurd (any-none P h)
any-numbered P i (p ∷ ps) h = elim (any-cases P (record { number = i; production = p }) (numbered (i + 1) ps) h) [
  | inl here ↦ record { place = 0; production = p; here = refl; holds = subst P (number-first i p) here }
  | inr rest ↦
      let found = any-numbered P (i + 1) ps rest in
      record {
        place = suc found.place;
        production = found.production;
        here = found.here;
        holds =
            subst P (number-next i found.place found.production) found.holds;
      }
]

-- children that stand in lists of derived trees are derived
zip-derived : (f : ℕ → List Tree) (D : ℕ → Tree → Type 0) → ((n : ℕ) (t : Tree) → Contains (f n) t → D n t) →
    (names : List ℕ) (ts : List Tree) → AllZip Contains (map f names) ts → AllZip D names ts
zip-derived f D derived [] [] h = h
zip-derived f D derived [] (t ∷ ts) h = absurd h
zip-derived f D derived (n ∷ names) [] h = absurd h
zip-derived f D derived (n ∷ names) (t ∷ ts) h = (derived n t h.0, zip-derived f D derived names ts h.1)

-- and so are their choices
choices-derived : (f : ℕ → List Tree) (D : ℕ → Tree → Type 0) → ((n : ℕ) (t : Tree) → Contains (f n) t → D n t) →
    (names : List ℕ) (ts : List Tree) → Contains (choices (map f names)) ts → AllZip D names ts
choices-derived f D derived names ts h = zip-derived f D derived names ts ((choices-are (map f names) ts).0 h)

number-of : (k : ℕ) (children : List Tree) → production_of (tree k children) ≡ k
number-of k children = ap (λ (o : Tree-F Tree). o.production) (out-tree k children)

children-of : (k : ℕ) (children : List Tree) → children_of (tree k children) ≡ children
children-of k children = ap (λ (o : Tree-F Tree). o.children) (out-tree k children)

-- the trees of a production with a number
production-derived : (f : ℕ → List Tree) (D : ℕ → Tree → Type 0) → ((n : ℕ) (t : Tree) → Contains (f n) t → D n t) →
    (k : ℕ) (p : Production) (t : Tree) →
    Any (λ s. s ≡ t) (trees_by f k p) → (production_of t ≡ k) × AreDerived D (Some p) (children_of t)
production-derived f D derived k (Leaf term) t h = elim (any-cases (λ s. s ≡ t) (tree k []) [] h) [
  | inl e ↦ (sym (ap production_of e) ∙ number-of k [], sym (ap children_of e) ∙ children-of k [])
  | inr none ↦ absurd (any-none (λ (s : Tree). s ≡ t) none)
]
production-derived f D derived k (Node op names) t h =
    let found = (any-map (λ s. s ≡ t) (tree k) (choices (map f names))).0 h in
    let children = found.1 in (
      sym (ap production_of found.4) ∙ number-of k children,
      subst (AllZip D names) (sym (children-of k children) ∙ ap children_of found.4)
          (choices-derived f D derived names children (found.0, found.2, found.3)),
    )

-- the trees of numbered productions
from-derived : (f : ℕ → List Tree) (D : ℕ → Tree → Type 0) → ((n : ℕ) (t : Tree) → Contains (f n) t → D n t) →
    (ps : List Production) (t : Tree) →
    Contains (trees_from f 0 ps) t → AreDerived D (slice_get ps (production_of t)) (children_of t)
from-derived f D derived ps t h =
    let stands = (any-flat_map (λ s. s ≡ t) (λ (p : Numbered). trees_by f p.number p.production)
    (numbered 0 ps)).0 ((any-contains (trees_from f 0 ps) t).0 h) in
    let found = any-numbered (λ p. Any (λ s. s ≡ t) (trees_by f p.number p.production)) 0 ps stands in
    let is = production-derived f D derived (0 + found.place) found.production t found.holds in
    let number : production_of t ≡ found.place =
    is.0 ∙ (let e : 0 + found.place ≡ found.place = omega arith in e) in
    subst (λ o. AreDerived D o (children_of t)) (sym (ap (slice_get ps) number ∙ found.here)) is.1

-- a listed tree derives
listed-derived : (rules : Rules) (d n : ℕ) (t : Tree) → Contains (trees_of rules d n) t → Derives rules d n t
listed-derived rules zero n t h =
    let none : Contains [] t = subst (λ ts. Contains ts t) (trees_of-zero rules n) h in
    omega (arith, none.1)
listed-derived rules (suc d) n t h =
    from-derived (trees_of rules d) (Derives rules d) (listed-derived rules d) (slice_index_or rules n []) t
    (subst (λ ts. Contains ts t) (trees_of-suc rules d n) h)

-- a tree is listed exactly where it derives
pub listed-derives : (rules : Rules) (d n : ℕ) (t : Tree) → Contains (trees_of rules d n) t ↔ Derives rules d n t
listed-derives rules d n t = (listed-derived rules d n t, derived_are_listed rules d n t)

-- a tuple is listed exactly where its trees derive from the starts
pub tuples-listed : (rules : Rules) (starts : List ℕ) (depth : ℕ) (ts : List Tree) →
    Contains (tuples_of rules starts depth) ts ↔ AreTrees rules starts depth ts
tuples-listed rules starts depth ts = (
  choices-derived (trees_of rules depth) (Derives rules depth) (listed-derived rules depth) starts ts,
  tuples_are_listed rules starts depth ts,
)
