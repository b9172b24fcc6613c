-- The listed trees derive.
use Rattle.std.proofs.Common.{◌≡◌, ℕ, zero, suc, ◌+◌, inl, inr, ◌⊎◌, List, [], ◌∷◌, ◌++◌, map, refl, sym, ◌∙◌, ap}
use Rattle.std.proofs.Common.{subst, arith}
use Rattle.std.specs.Prelude.{Contains, Some, slice_get, slice_index_or}
use Rattle.std.specs.List.{AllZip, flat_map}
use Rattle.std.proofs.lemmas.List.Elements.{Contains-append_cases}
use Rattle.am_tree.specs.declared.grammar.Production.{Production}
use Rattle.am_tree.specs.declared.grammar.Production.TheVariants.{Leaf, Node}
use Rattle.am_tree.specs.declared.tree.Tree.{Tree}
use Rattle.am_tree.specs.declared.tree.Tree.TheOpen.{Tree-F}
use Rattle.am_tree.specs.Listed.{choices, trees_by, trees_of, tuples_of}
use Rattle.am_tree.specs.Slots.{Numbered, numbered}
use Rattle.am_tree.specs.Trees.{AreDerived, AreTrees, Derives, Rules, children_of, production_at, production_of, tree}
use Rattle.am_tree.proofs.Listing.{has-cases, has-none}
use Rattle.am_tree.proofs.Terms.{out-tree}

-- where an item of a list comes from

-- an item of what a function gives for all is what it gives for one
pub map-has : {X A : Type 0} (g : X → A) (xs : List X) (a : A) → Contains (map g xs) a →
    (x : X) × (Contains xs x) × (g x ≡ a)
map-has g [] a h = absurd (has-none a h)
map-has g (x ∷ xs) a h = go (has-cases (g x) a (map g xs) h) (map-has g xs a)
  where
    go : (g x ≡ a) ⊎ Contains (map g xs) a → (Contains (map g xs) a → (y : _) × (Contains xs y) × (g y ≡ a)) →
        (y : _) × (Contains (x ∷ xs) y) × (g y ≡ a)
    go (inl e) more = (x, (0, omega arith, refl), e)
    go (inr k) more =
        let rest = more k in
        (rest.0, (suc rest.1.0, omega (arith, rest.1.1), rest.1.2), rest.2)

-- an item of one of the lists that a function gives is of the list for some item
pub flat_map-has : {X A : Type 0} (f : X → List A) (xs : List X) (a : A) → Contains (flat_map f xs) a →
    (x : X) × (Contains xs x) × Contains (f x) a
flat_map-has f [] a h = absurd (has-none a h)
flat_map-has f (x ∷ xs) a h = go (Contains-append_cases (f x) (flat_map f xs) a h) (flat_map-has f xs a)
  where
    go : Contains (f x) a ⊎ Contains (flat_map f xs) a →
        (Contains (flat_map f xs) a → (y : _) × (Contains xs y) × Contains (f y) a) →
        (y : _) × (Contains (x ∷ xs) y) × Contains (f y) a
    go (inl k) more = (x, (0, omega arith, refl), k)
    go (inr k) more =
        let rest = more k in
        (rest.0, (suc rest.1.0, omega (arith, rest.1.1), rest.1.2), rest.2)

-- a choice has an item of each of the lists
pub choices-have : {T : Type 0} (f : ℕ → List T) (names : List ℕ) (ts : List T) → Contains (choices (map f names)) ts →
    AllZip (λ n t. Contains (f n) t) names ts
choices-have f [] ts h = go (has-cases [] ts [] h)
  where
    go : ([] ≡ ts) ⊎ Contains [] ts → AllZip (λ n t. Contains (f n) t) [] ts
    go (inl e) = rw (← e) tt
    go (inr k) = absurd (has-none ts k)
choices-have f (n ∷ names) ts h =
    let first = flat_map-has (λ x. map (λ others. x ∷ others) (choices (map f names))) (f n) ts h in
    let rest = map-has (λ others. first.0 ∷ others) (choices (map f names)) ts first.2 in
    rw (← rest.2) (first.1, choices-have f names rest.0 rest.1)

-- a numbered production stands at its place
pub numbered-has : (i : ℕ) (ps : List Production) (q : Numbered) → Contains (numbered i ps) q →
    (k : ℕ) × (slice_get ps k ≡ Some q.production) × (q.number ≡ i + k)
numbered-has i [] q h = absurd (has-none q h)
numbered-has i (p ∷ ps) q h =
    go (has-cases (record { number = i; production = p }) q (numbered (i + 1) ps) h) (numbered-has (i + 1) ps q)
  where
    go : (◌≡◌ {A = Numbered} (record { number = i; production = p }) q) ⊎ Contains (numbered (i + 1) ps) q →
        (Contains (numbered (i + 1) ps) q → (k : ℕ) × (slice_get ps k ≡ Some q.production) × (q.number ≡ i + 1 + k)) →
        (k : ℕ) × (slice_get (p ∷ ps) k ≡ Some q.production) × (q.number ≡ i + k)
    go (inl e) more =
        let number : i ≡ q.number = ap (λ (r : Numbered). r.number) e in
        (0, ap (λ (r : Numbered). Some r.production) e, omega (arith, number))
    go (inr k) more =
        let rest = more k in
        let number : q.number ≡ i + suc rest.0 = omega (arith, rest.2) in
        (suc rest.0, rest.1, number)

number-of : (k : ℕ) (children : List Tree) → production_of (tree k children) ≡ k
number-of k children = ap (λ (o : Tree-F Tree). o.production) (out-tree k children)

-- the children of a tree are those that it was made of
pub children-of : (k : ℕ) (children : List Tree) → children_of (tree k children) ≡ children
children-of k children = ap (λ (o : Tree-F Tree). o.children) (out-tree k children)

-- the trees of a production have its number
pub production-number : (f : ℕ → List Tree) (k : ℕ) (p : Production) (t : Tree) → Contains (trees_by f k p) t →
    production_of t ≡ k
production-number f k (Leaf term) t h = go (has-cases (tree k []) t [] h)
  where
    go : (tree k [] ≡ t) ⊎ Contains [] t → production_of t ≡ k
    go (inl e) = sym (ap production_of e) ∙ number-of k []
    go (inr none) = absurd (has-none t none)
production-number f k (Node op names) t h =
    let found = map-has (tree k) (choices (map f names)) t h in
    sym (ap production_of found.2) ∙ number-of k found.0

module _ (f : ℕ → List Tree) (D : ℕ → Tree → Type 0) (derived : (n : ℕ) (t : Tree) → Contains (f n) t → D n t) where
  each-derived : (names : List ℕ) (ts : List Tree) → AllZip (λ n t. Contains (f n) t) names ts → AllZip D names ts
  each-derived [] [] h = tt
  each-derived [] (t ∷ ts) h = absurd h
  each-derived (n ∷ names) [] h = absurd h
  each-derived (n ∷ names) (t ∷ ts) h = (derived n t h.0, each-derived names ts h.1)

  production-derived : (k : ℕ) (p : Production) (t : Tree) → Contains (trees_by f k p) t →
      AreDerived D (Some p) (children_of t)
  production-derived k (Leaf term) t h = go (has-cases (tree k []) t [] h)
    where
      go : (tree k [] ≡ t) ⊎ Contains [] t → children_of t ≡ []
      go (inl e) = sym (ap children_of e) ∙ children-of k []
      go (inr none) = absurd (has-none t none)
  production-derived k (Node op names) t h =
      let found = map-has (tree k) (choices (map f names)) t h in
      subst (AllZip D names) (sym (children-of k found.0) ∙ ap children_of found.2)
      (each-derived names found.0 (choices-have f names found.0 found.1))

module _ (rules : Rules) where
  -- each of the listed trees of a nonterminal derives from it
  pub listed_are_derived : (d n : ℕ) (t : Tree) → Contains (trees_of rules d n) t → Derives rules d n t
  unfolding trees_of
  listed_are_derived zero n t h = absurd (has-none t h)
  listed_are_derived (suc d) n t h =
      let ps = slice_index_or rules n [] in
      let found =
      flat_map-has (λ (q : Numbered). trees_by (trees_of rules d) q.number q.production) (numbered 0 ps) t h in
      let q = found.0 in
      let place = numbered-has 0 ps q found.1 in
      let number : production_of t ≡ place.0 =
      production-number (trees_of rules d) q.number q.production t found.2 ∙ place.2
      ∙ (let e : 0 + place.0 ≡ place.0 = omega arith in e) in
      let at : production_at rules n (production_of t) ≡ Some q.production = ap (slice_get ps) number ∙ place.1 in
      subst (λ o. AreDerived (Derives rules d) o (children_of t)) (sym at)
      (production-derived (trees_of rules d) (Derives rules d) (listed_are_derived d) q.number q.production t found.2)

  -- each listed tuple has one tree from each start
  pub listed_are_tuples : (starts : List ℕ) (d : ℕ) (ts : List Tree) → Contains (tuples_of rules starts d) ts →
      AreTrees rules starts d ts
  listed_are_tuples starts d ts h =
      each-derived (trees_of rules d) (Derives rules d) (listed_are_derived d) starts ts
      (choices-have (trees_of rules d) starts ts h)
