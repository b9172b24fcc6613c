-- Derivations and terms, layer by layer of the tree.
use Rattle.std.proofs.Common.{◌≡◌, ℕ, zero, suc, ◌+◌, ◌-◌, ◌<◌, ◌↔◌, List, [], ◌∷◌, length, drop, get_or, refl, sym}
use Rattle.std.proofs.Common.{◌∙◌, ap, subst, arith, add-one, drop-cons}
use Rattle.std.proofs.lemmas.Bool.{eqb-true}
use Rattle.std.specs.Prelude.{IsTrue, ◌==◌, Option, None, Some, slice_get}
use Rattle.std.specs.List.{AllZip}
use Rattle.std.proofs.lemmas.Option.{get_or_from_slice_get}
use Rattle.am_bv.specs.declared.op.Op.{Op}
use Rattle.am_bv.specs.declared.term.Term.{Term}
use Rattle.am_tree.specs.declared.grammar.Production.{Production}
use Rattle.am_tree.specs.declared.grammar.Production.TheVariants.{Leaf, Node}
use Rattle.am_tree.specs.declared.tree.Tree.{Tree, fold_out-Tree}
use Rattle.am_tree.specs.Trees.{Rules, production_at, production_of, children_of, terms_at, term_by, term_step, term_of}
use Rattle.am_tree.specs.Trees.{AreDerived, Derives, HasDerivation}
use Rattle.am_tree.specs.inside.Matched.{givers}

less : (d : ℕ) → suc d - 1 ≡ d
less d = omega arith

-- the production of a tree, where the rules have it
pub production-found : (rules : Rules) (n p : ℕ) (ps : List Production) (q : Production) → slice_get rules n ≡ Some ps →
    slice_get ps p ≡ Some q →
    production_at rules n p ≡ Some q
production-found rules n p ps q e f =
    ap (λ (xs : List Production). slice_get xs p) (get_or_from_slice_get rules n ps [] e) ∙ f

-- no tree derives with depth 0
pub derives-none : (rules : Rules) (n : ℕ) (t : Tree) → ¬ Derives rules 0 n t
derives-none rules n t h = h

-- a tree derives exactly where its children do, with one level less
pub derives-by : (rules : Rules) (d n : ℕ) (t : Tree) (p : Production) → 0 < d →
    production_at rules n (production_of t) ≡ Some p →
    Derives rules d n t ↔ AreDerived (Derives rules (d - 1)) (Some p) (children_of t)
derives-by rules zero n t p l e = absurd (omega (arith, l))
derives-by rules (suc d) n t p l e =
    let same : AreDerived (Derives rules d) (Some p) (children_of t)
    ↔ AreDerived (Derives rules (suc d - 1)) (Some p) (children_of t) =
    subst
    (λ (k : ℕ). AreDerived (Derives rules d) (Some p) (children_of t)
    ↔ AreDerived (Derives rules k) (Some p) (children_of t))
    (sym (less d)) (λ h. h, λ h. h) in
    rw e same

-- no tree derives whose production the nonterminal lacks
pub derives-past : (rules : Rules) (d n : ℕ) (t : Tree) → production_at rules n (production_of t) ≡ None →
    ¬ Derives rules d n t
derives-past rules zero n t e h = h
derives-past rules (suc d) n t e h = rw e at h

-- the term of a tree by its production
pub term-by : (rules : Rules) (n : ℕ) (t : Tree) →
    term_of rules n t ≡ term_by (production_at rules n (production_of t)) (givers rules (children_of t))
unfolding term_of
term-by rules n t = ap (λ (f : ℕ → Term). f n) (fold_out-Tree (ℕ → Term) (term_step rules) t)

-- the term of a tree is that of its production over what its children give
pub term-by_found : (rules : Rules) (n : ℕ) (t : Tree) (p : Production) →
    production_at rules n (production_of t) ≡ Some p →
    term_of rules n t ≡ term_by (Some p) (givers rules (children_of t))
term-by_found rules n t p e =
    term-by rules n t ∙ ap (λ (o : Option Production). term_by o (givers rules (children_of t))) e

-- children of a derived tree

-- a relation of two lists from a place on is that at the place and from the next one on
pub zip-next : {A B : Type 0} (R : A → B → Type 0) (xs : List A) (ys : List B) (i : ℕ) (d : A) (e : B) → i < length xs →
    i < length ys → R (get_or xs i d) (get_or ys i e) →
    AllZip R (drop (i + 1) xs) (drop (i + 1) ys) ↔ AllZip R (drop i xs) (drop i ys)
zip-next R xs ys i d e l m h = rw (drop-cons xs i d l, drop-cons ys i e m, add-one) (λ rest. (h, rest), λ all. all.1)

-- lists that are related from a place on are related at it
pub zip-head : {A B : Type 0} (R : A → B → Type 0) (xs : List A) (ys : List B) (i : ℕ) (d : A) (e : B) → i < length xs →
    i < length ys → AllZip R (drop i xs) (drop i ys) →
    R (get_or xs i d) (get_or ys i e)
zip-head R xs ys i d e l m h = (rw (drop-cons xs i d l, drop-cons ys i e m) at h).0

-- lists that are related are related at each place
pub zip-at : {A B : Type 0} (R : A → B → Type 0) (xs : List A) (ys : List B) (i : ℕ) (d : A) (e : B) → i < length xs →
    AllZip R xs ys →
    R (get_or xs i d) (get_or ys i e)
zip-at R [] ys i d e l h = absurd (omega (arith, l))
zip-at R (x ∷ xs) [] i d e l h = absurd h
zip-at R (x ∷ xs) (y ∷ ys) zero d e l h = h.0
zip-at R (x ∷ xs) (y ∷ ys) (suc i) d e l h = zip-at R xs ys i d e (omega (arith, l)) h.1

-- lists that are related are as long
pub zip-lengths : {A B : Type 0} (R : A → B → Type 0) (xs : List A) (ys : List B) → AllZip R xs ys →
    length xs ≡ length ys
zip-lengths R [] [] h = refl
zip-lengths R [] (y ∷ ys) h = absurd h
zip-lengths R (x ∷ xs) [] h = absurd h
zip-lengths R (x ∷ xs) (y ∷ ys) h = ap suc (zip-lengths R xs ys h.1)

-- what is known of the children of a tree that derives with some depth
pub children-derived : (rules : Rules) (n : ℕ) (t : Tree) (op : Op) (names : List ℕ) →
    production_at rules n (production_of t) ≡ Some (Node op names) →
    (r : HasDerivation rules n t) → AllZip (Derives rules (r.depth - 1)) names (children_of t)
children-derived rules n t op names e r = go r.depth r.derives
  where
    go : (d : ℕ) → Derives rules d n t → AllZip (Derives rules (d - 1)) names (children_of t)
    go zero h = absurd h
    go (suc d) h =
        let all : AllZip (Derives rules d) names (children_of t) = rw e at h in
        subst (λ (k : ℕ). AllZip (Derives rules k) names (children_of t)) (sym (less d)) all

-- the next child's term
pub terms-next : (rules : Rules) (names : List ℕ) (ts : List Tree) (i : ℕ) (d : Tree) → i < length names →
    i < length ts →
    terms_at (drop i names) (givers rules (drop i ts))
    ≡ term_of rules (get_or names i 0) (get_or ts i d) ∷ terms_at (drop (i + 1) names) (givers rules (drop (i + 1) ts))
terms-next rules names ts i d l m = rw (drop-cons names i 0 l, drop-cons ts i d m, add-one) refl

-- what a call reads of a tree's production says when the tree derives

-- a tree of a node derives exactly where its children derive from the node's nonterminals
pub derives-node : (rules : Rules) (d n : ℕ) (t : Tree) (ps : List Production) (q : Production) (op : Op)
    (names : List ℕ) →
    0 < d →
    slice_get rules n ≡ Some ps → slice_get ps (production_of t) ≡ Some q → q ≡ Node op names →
    Derives rules d n t ↔ AllZip (Derives rules (d - 1)) names (children_of t)
derives-node rules d n t ps q op names l e f is =
    derives-by rules d n t (Node op names) l
    (production-found rules n (production_of t) ps (Node op names) e (f ∙ ap Some is))

-- a tree of a leaf derives exactly where it has no children
pub derives-leaf : (rules : Rules) (d n : ℕ) (t : Tree) (ps : List Production) (q : Production) (term : Term) → 0 < d →
    slice_get rules n ≡ Some ps → slice_get ps (production_of t) ≡ Some q → q ≡ Leaf term →
    Derives rules d n t ↔ (children_of t ≡ [])
derives-leaf rules d n t ps q term l e f is =
    derives-by rules d n t (Leaf term) l (production-found rules n (production_of t) ps (Leaf term) e (f ∙ ap Some is))

-- a list is empty exactly where its length is 0
pub no-items : {A : Type 0} (xs : List A) → IsTrue (length xs == 0) ↔ (xs ≡ [])
no-items [] = (λ _. refl, λ _. refl)
no-items (x ∷ xs) = (λ e. absurd (omega (arith, eqb-true _ _ e)), λ e. cc)
