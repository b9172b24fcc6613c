-- The lists of all trees have each tree that derives, and as many as are counted.
use Rattle.std.proofs.Common.{◌≡◌, ℕ, zero, suc, ◌+◌, ◌*◌, List, [], ◌∷◌, ◌++◌, length, map, sum_by, inl, inr, ◌⊎◌}
use Rattle.std.proofs.Common.{refl, sym, ◌∙◌, ap, subst, arith}
use Rattle.std.specs.Prelude.{Contains, None, Option, Some, slice_get, slice_index_or}
use Rattle.std.specs.List.{AllZip, flat_map}
use Rattle.std.proofs.lemmas.List.{length-map}
use Rattle.std.proofs.lemmas.List.Concat.{flat_map-cons, length-flat_map}
use Rattle.std.proofs.Math.Nat.{suc-mul, zero-add, zero-mul}
use Rattle.std.proofs.lemmas.List.Sums.{sum_by-cons}
use Rattle.std.proofs.lemmas.List.Elements.{Contains-append_left, Contains-append_right}
use Rattle.am_tree.specs.declared.grammar.Production.{Production}
use Rattle.am_tree.specs.declared.grammar.Production.TheVariants.{Leaf, Node}
use Rattle.am_tree.specs.declared.tree.Tree.{Tree}
use Rattle.am_tree.specs.Counts.{product_by, production_count, tree_count, tuple_count}
use Rattle.am_tree.specs.Listed.{choices, trees_by, trees_of, tuples_of}
use Rattle.am_tree.specs.Slots.{Numbered, numbered}
use Rattle.am_tree.specs.Trees.{AreDerived, AreTrees, Derives, Rules, children_of, production_at, production_of, tree}
use Rattle.am_tree.proofs.Terms.{tree-out}

-- items of lists

module _ {X : Type 0} where
  has-head : (x y : X) (xs : List X) → y ≡ x → Contains (y ∷ xs) x
  has-head x y xs e = (0, omega arith, e)

  -- an item of the rest of a list is one of the list
  pub has-tail : (y x : X) (xs : List X) → Contains xs x → Contains (y ∷ xs) x
  has-tail y x xs h = (suc h.0, omega (arith, h.1), h.2)

  -- an item of a list is its first or one of the rest
  pub has-cases : (y x : X) (xs : List X) → Contains (y ∷ xs) x → (y ≡ x) ⊎ Contains xs x
  has-cases y x xs (zero, l, e) = inl e
  has-cases y x xs (suc k, l, e) = inr (k, omega (arith, l), e)

  -- an empty list has no items
  pub has-none : (x : X) → ¬ Contains [] x
  has-none x h = omega (arith, h.1)

module _ {X A : Type 0} where
  -- what a function gives for an item is an item of what it gives for all
  has-map : (g : X → A) (xs : List X) (x : X) → Contains xs x → Contains (map g xs) (g x)
  has-map g [] x h = absurd (has-none x h)
  has-map g (y ∷ xs) x h = go (has-cases y x xs h) (has-map g xs x)
    where
      go : (y ≡ x) ⊎ Contains xs x → (Contains xs x → Contains (map g xs) (g x)) → Contains (g y ∷ map g xs) (g x)
      go (inl e) rest = has-head (g x) (g y) (map g xs) (ap g e)
      go (inr k) rest = has-tail (g y) (g x) (map g xs) (rest k)

  -- an item of the list that a function gives for an item is one of all these lists
  has-flat_map : (f : X → List A) (xs : List X) (x : X) (a : A) → Contains xs x → Contains (f x) a →
      Contains (flat_map f xs) a
  has-flat_map f [] x a h k = absurd (has-none x h)
  has-flat_map f (y ∷ xs) x a h k = rw (flat_map-cons f y xs) (go (has-cases y x xs h) (λ l. has-flat_map f xs x a l k))
    where
      go : (y ≡ x) ⊎ Contains xs x → (Contains xs x → Contains (flat_map f xs) a) → Contains (f y ++ flat_map f xs) a
      go (inl e) rest = Contains-append_left (f y) (flat_map f xs) a (subst (λ z. Contains (f z) a) (sym e) k)
      go (inr l) rest = Contains-append_right (f y) (flat_map f xs) a (rest l)

-- a list that takes an item from each of the lists is one of their choices
has-choices : {T : Type 0} (f : ℕ → List T) (names : List ℕ) (ts : List T) → AllZip (λ n t. Contains (f n) t) names ts →
    Contains (choices (map f names)) ts
has-choices f [] [] h = has-head [] [] [] refl
has-choices f [] (t ∷ ts) h = absurd h
has-choices f (n ∷ names) [] h = absurd h
has-choices f (n ∷ names) (t ∷ ts) h =
    has-flat_map (λ x. map (λ others. x ∷ others) (choices (map f names))) (f n) t (t ∷ ts) h.0
    (has-map (λ others. t ∷ others) (choices (map f names)) ts (has-choices f names ts h.1))

-- ---- each tree that derives is listed

abbrev at : ℕ → Production → Numbered
at n p = record { number = n; production = p }

has-numbered : (i k : ℕ) (ps : List Production) (p : Production) → slice_get ps k ≡ Some p →
    Contains (numbered i ps) (at (i + k) p)
has-numbered i k [] p e = cc
has-numbered i zero (q ∷ ps) p e =
    let same : q ≡ p = cc in
    let here : i ≡ i + 0 = omega arith in
    has-head (at (i + 0) p) (at i q) (numbered (i + 1) ps) (ap (at i) same ∙ ap (λ n. at n p) here)
has-numbered i (suc k) (q ∷ ps) p e =
    let there : i + 1 + k ≡ i + suc k = omega arith in
    has-tail (at i q) (at (i + suc k) p) (numbered (i + 1) ps)
    (subst (λ n. Contains (numbered (i + 1) ps) (at n p)) there (has-numbered (i + 1) k ps p e))

module _ (rules : Rules) where
  by_production : (d k : ℕ) (p : Production) (t : Tree) → production_of t ≡ k →
      ((n : ℕ) (u : Tree) → Derives rules d n u → Contains (trees_of rules d n) u) →
      AreDerived (Derives rules d) (Some p) (children_of t) → Contains (trees_by (trees_of rules d) k p) t
  by_production d k (Leaf u) t e below h =
      has-head t (tree k []) [] (ap (λ n. tree n []) (sym e) ∙ ap (tree (production_of t)) (sym h) ∙ tree-out t)
  by_production d k (Node op names) t e below h =
      subst (Contains (map (tree k) (choices (map (trees_of rules d) names))))
      (ap (λ n. tree n (children_of t)) (sym e) ∙ tree-out t)
      (has-map (tree k) (choices (map (trees_of rules d) names)) (children_of t)
      (has-choices (trees_of rules d) names (children_of t) (each names (children_of t) h)))
    where
      each : (ns : List ℕ) (us : List Tree) → AllZip (Derives rules d) ns us →
          AllZip (λ n u. Contains (trees_of rules d n) u) ns us
      each [] [] h = h
      each [] (u ∷ us) h = h
      each (n ∷ ns) [] h = h
      each (n ∷ ns) (u ∷ us) h = (below n u h.0, each ns us h.1)

  -- each tree that derives from a nonterminal is one of its trees
  pub derived_are_listed : (d n : ℕ) (t : Tree) → Derives rules d n t → Contains (trees_of rules d n) t
  unfolding trees_of
  derived_are_listed zero n t h = absurd h
  derived_are_listed (suc d) n t h = go (production_at rules n (production_of t)) refl h (derived_are_listed d)
    where
      go : (o : Option Production) → production_at rules n (production_of t) ≡ o →
          AreDerived (Derives rules d) o (children_of t) →
          ((m : ℕ) (u : Tree) → Derives rules d m u → Contains (trees_of rules d m) u) →
          Contains
          (flat_map (λ q. trees_by (trees_of rules d) q.number q.production)
          (numbered 0 (slice_index_or rules n [])))
          t
      go None e h below = absurd h
      go (Some p) e h below =
          has-flat_map (λ q. trees_by (trees_of rules d) q.number q.production) (numbered 0 (slice_index_or rules n []))
          (at (production_of t) p) t
          (subst (λ k. Contains (numbered 0 (slice_index_or rules n [])) (at k p)) (zero-add (production_of t))
          (has-numbered 0 (production_of t) (slice_index_or rules n []) p e))
          (by_production d (production_of t) p t refl below h)

  each_listed : (d : ℕ) (starts : List ℕ) (ts : List Tree) → AllZip (Derives rules d) starts ts →
      AllZip (λ n t. Contains (trees_of rules d n) t) starts ts
  each_listed d [] [] h = h
  each_listed d [] (t ∷ ts) h = h
  each_listed d (n ∷ ns) [] h = h
  each_listed d (n ∷ ns) (t ∷ ts) h = (derived_are_listed d n t h.0, each_listed d ns ts h.1)

  -- each tuple of trees from the starts is listed
  pub tuples_are_listed : (starts : List ℕ) (d : ℕ) (ts : List Tree) → AreTrees rules starts d ts →
      Contains (tuples_of rules starts d) ts
  tuples_are_listed starts d ts h = has-choices (trees_of rules d) starts ts (each_listed d starts ts h)

-- ---- how many there are

sum-same : {X : Type 0} (f : X → ℕ) (xs : List X) (k : ℕ) → ((x : X) → f x ≡ k) → sum_by f xs ≡ length xs * k
sum-same f [] k same = sym (zero-mul k)
sum-same f (x ∷ xs) k same =
    sum_by-cons f x xs ∙ ap (λ n. n + sum_by f xs) (same x) ∙ ap (λ n. k + n) (sum-same f xs k same)
    ∙ omega (arith, suc-mul (length xs) k)

length-choices : {T : Type 0} (f : ℕ → List T) (names : List ℕ) →
    length (choices (map f names)) ≡ product_by (λ n. length (f n)) names
length-choices f [] = refl
length-choices f (n ∷ names) =
    length-flat_map (λ x. map (λ others. x ∷ others) (choices (map f names))) (f n)
    ∙ sum-same _ (f n) (length (choices (map f names))) (λ x. length-map (choices (map f names)) (λ others. x ∷ others))
    ∙ ap (λ k. length (f n) * k) (length-choices f names)

product-same : (f g : ℕ → ℕ) (names : List ℕ) → ((n : ℕ) → f n ≡ g n) → product_by f names ≡ product_by g names
product-same f g [] same = refl
product-same f g (n ∷ names) same =
    ap (λ k. f n * k) (product-same f g names same) ∙ ap (λ k. k * product_by g names) (same n)

module _ (rules : Rules) where
  count_by : (d k : ℕ) (p : Production) → ((n : ℕ) → length (trees_of rules d n) ≡ tree_count rules d n) →
      length (trees_by (trees_of rules d) k p) ≡ production_count (tree_count rules d) p
  count_by d k (Leaf t) same = refl
  count_by d k (Node op names) same =
      length-map (choices (map (trees_of rules d) names)) (tree k)
      ∙ length-choices (trees_of rules d) names
      ∙ product-same (λ n. length (trees_of rules d n)) (tree_count rules d) names same

  count_all : (d i : ℕ) (ps : List Production) → ((n : ℕ) → length (trees_of rules d n) ≡ tree_count rules d n) →
      sum_by (λ (q : Numbered). length (trees_by (trees_of rules d) q.number q.production)) (numbered i ps)
      ≡ sum_by (production_count (tree_count rules d)) ps
  count_all d i [] same = refl
  count_all d i (p ∷ ps) same =
      sum_by-cons (λ (q : Numbered). length (trees_by (trees_of rules d) q.number q.production)) (at i p)
      (numbered (i + 1) ps)
      ∙ ap
      (λ n. n
      + sum_by (λ (q : Numbered). length (trees_by (trees_of rules d) q.number q.production))
      (numbered (i + 1) ps))
      (count_by d i p same)
      ∙ ap (λ n. production_count (tree_count rules d) p + n) (count_all d (i + 1) ps same)
      ∙ sym (sum_by-cons (production_count (tree_count rules d)) p ps)

  -- there are as many trees of a nonterminal as are counted
  pub trees_are_counted : (d n : ℕ) → length (trees_of rules d n) ≡ tree_count rules d n
  unfolding trees_of tree_count
  trees_are_counted zero n = refl
  trees_are_counted (suc d) n =
      length-flat_map (λ q. trees_by (trees_of rules d) q.number q.production) (numbered 0 (slice_index_or rules n []))
      ∙ count_all d 0 (slice_index_or rules n []) (trees_are_counted d)

  -- there are as many tuples of trees as are counted
  pub tuples_are_counted : (starts : List ℕ) (d : ℕ) → length (tuples_of rules starts d) ≡ tuple_count rules starts d
  tuples_are_counted starts d =
      length-choices (trees_of rules d) starts
      ∙ product-same (λ n. length (trees_of rules d n)) (tree_count rules d) starts (trees_are_counted d)
