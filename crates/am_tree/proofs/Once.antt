-- Each tree and each tuple of trees stands once in its list.
use Rattle.std.proofs.Common.{◌≡◌, ℕ, zero, suc, ◌+◌, ◌<◌, inl, inr, ◌⊎◌, List, [], ◌∷◌, ◌++◌, length, map, get_or}
use Rattle.std.proofs.Common.{refl, sym, ◌∙◌, ap, subst, arith}
use Rattle.std.specs.Prelude.{AllPairs, Contains, Some, slice_get, slice_index_or}
use Rattle.std.specs.List.{flat_map}
use Rattle.std.proofs.lemmas.List.{get_or_default}
use Rattle.std.proofs.lemmas.List.Elements.{Contains-append_cases}
use Rattle.std.proofs.lemmas.Option.{same_Some}
use Rattle.am_tree.specs.declared.grammar.Production.{Production}
use Rattle.am_tree.specs.declared.grammar.Production.TheVariants.{Leaf, Node}
use Rattle.am_tree.specs.declared.tree.Tree.{Tree}
use Rattle.am_tree.specs.Listed.{choices, trees_by, trees_of, tuples_of}
use Rattle.am_tree.specs.Slots.{Numbered, numbered}
use Rattle.am_tree.specs.Trees.{Rules, children_of, production_of, tree}
use Rattle.am_tree.proofs.Listed.{children-of, flat_map-has, map-has, numbered-has, production-number}
use Rattle.am_tree.proofs.Listing.{has-cases, has-none, has-tail}

-- no item stands twice
abbrev AreApart : {X : Type 0} → List X → Type 0
AreApart [] = Unit {0}
AreApart (x ∷ xs) = (¬ Contains xs x) × AreApart xs

apart-pairs : {X : Type 0} (xs : List X) → AreApart xs → AllPairs (λ x y. ¬ x ≡ y) xs
apart-pairs [] h i j d l m e = omega (arith, m)
apart-pairs (x ∷ xs) h zero zero d l m e = omega (arith, l)
apart-pairs (x ∷ xs) h zero (suc j) d l m e =
    let within : j < length xs = omega (arith, m) in
    h.0 (j, within, get_or_default xs j x d within ∙ sym e)
apart-pairs (x ∷ xs) h (suc i) zero d l m e = omega (arith, l)
apart-pairs (x ∷ xs) h (suc i) (suc j) d l m e = apart-pairs xs h.1 i j d (omega (arith, l)) (omega (arith, m)) e

apart-append : {X : Type 0} (xs ys : List X) → AreApart xs → AreApart ys →
    ((x : X) → Contains xs x → ¬ Contains ys x) → AreApart (xs ++ ys)
apart-append [] ys h k none = k
apart-append (x ∷ xs) ys h k none = (
  λ c. go (Contains-append_cases xs ys x c),
  apart-append xs ys h.1 k (λ z c. none z (has-tail x z xs c)),
)
  where
    go : Contains xs x ⊎ Contains ys x → ⊥
    go (inl c) = h.0 c
    go (inr c) = none x (0, omega arith, refl) c

apart-map : {X A : Type 0} (g : X → A) → ((x y : X) → g x ≡ g y → x ≡ y) → (xs : List X) → AreApart xs →
    AreApart (map g xs)
apart-map g one [] h = tt
apart-map g one (x ∷ xs) h = (
  λ c.
      let found = map-has g xs (g x) c in
      h.0 (subst (Contains xs) (one found.0 x found.2) found.1),
  apart-map g one xs h.1,
)

apart-flat_map : {X A : Type 0} (f : X → List A) (xs : List X) → AreApart xs → ((x : X) → AreApart (f x)) →
    ((x y : X) (a : A) → Contains xs x → Contains xs y → Contains (f x) a → Contains (f y) a → x ≡ y) →
    AreApart (flat_map f xs)
apart-flat_map f [] h each one = tt
apart-flat_map f (x ∷ xs) h each one =
    apart-append (f x) (flat_map f xs) (each x)
    (apart-flat_map f xs h.1 each (λ y z a b c. one y z a (has-tail x y xs b) (has-tail x z xs c)))
    (λ a b c.
    let found = flat_map-has f xs a c in
    h.0 (subst (Contains xs)
    (one found.0 x a (has-tail x found.0 xs found.1) (0, omega arith, refl) found.2 b)
    found.1))

apart-choices : {T : Type 0} (f : ℕ → List T) → ((n : ℕ) → AreApart (f n)) → (names : List ℕ) →
    AreApart (choices (map f names))
apart-choices f each [] = (has-none [], tt)
apart-choices f each (n ∷ names) =
    let rest = choices (map f names) in
    apart-flat_map (λ x. map (λ others. x ∷ others) rest) (f n) (each n)
    (λ x. apart-map (λ others. x ∷ others) (λ xs ys e. cc) rest (apart-choices f each names))
    (λ x y ts a b c d.
    let one = map-has (λ others. x ∷ others) rest ts c in
    let other = map-has (λ others. y ∷ others) rest ts d in
    let same : x ∷ one.0 ≡ y ∷ other.0 = one.2 ∙ sym other.2 in
    cc)

apart-numbered : (i : ℕ) (ps : List Production) → AreApart (numbered i ps)
apart-numbered i [] = tt
apart-numbered i (p ∷ ps) = (
  λ c. let found = numbered-has (i + 1) ps (record { number = i; production = p }) c in omega (arith, found.2),
  apart-numbered (i + 1) ps,
)

same-children : (k : ℕ) (ts us : List Tree) → tree k ts ≡ tree k us → ts ≡ us
same-children k ts us e = sym (children-of k ts) ∙ ap children_of e ∙ children-of k us

apart-production : (f : ℕ → List Tree) → ((n : ℕ) → AreApart (f n)) → (k : ℕ) (p : Production) →
    AreApart (trees_by f k p)
apart-production f each k (Leaf term) = (has-none (tree k []), tt)
apart-production f each k (Node op names) =
    apart-map (tree k) (same-children k) (choices (map f names)) (apart-choices f each names)

same-numbered : (ps : List Production) (q r : Numbered) → Contains (numbered 0 ps) q → Contains (numbered 0 ps) r →
    q.number ≡ r.number → q ≡ r
same-numbered ps q r a b e =
    let one = numbered-has 0 ps q a in
    let other = numbered-has 0 ps r b in
    let place : one.0 ≡ other.0 = omega (arith, one.2, other.2, e) in
    let production : q.production ≡ r.production =
    same_Some _ _ (sym one.1 ∙ ap (slice_get ps) place ∙ other.1) in
    ap (λ (n : ℕ). let s : Numbered = record { number = n; production = q.production } in s) e
    ∙ ap (λ (p : Production). let s : Numbered = record { number = r.number; production = p } in s) production

module _ (rules : Rules) where
  apart-trees : (d n : ℕ) → AreApart (trees_of rules d n)
  unfolding trees_of
  apart-trees zero n = tt
  apart-trees (suc d) n =
      let ps = slice_index_or rules n [] in
      apart-flat_map (λ (q : Numbered). trees_by (trees_of rules d) q.number q.production) (numbered 0 ps)
      (apart-numbered 0 ps)
      (λ q. apart-production (trees_of rules d) (apart-trees d) q.number q.production)
      (λ q r t a b c e.
      same-numbered ps q r a b
      (sym (production-number (trees_of rules d) q.number q.production t c)
      ∙ production-number (trees_of rules d) r.number r.production t e))

  -- each tuple of trees stands once in the list
  pub tuples_stand_once : (starts : List ℕ) (d : ℕ) → AllPairs (λ ts us. ¬ ts ≡ us) (tuples_of rules starts d)
  tuples_stand_once starts d =
      apart-pairs (tuples_of rules starts d) (apart-choices (trees_of rules d) (apart-trees d) starts)
