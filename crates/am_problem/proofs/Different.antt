-- Lists of different things are no longer than a list that has them all.
use Rattle.std.proofs.Common.{◌≡◌, ◌≢◌, ℕ, suc, ◌<◌, ◌≤◌, ◌||◌, Bool, true, false, eqb, List, [], ◌∷◌, ◌++◌, length}
use Rattle.std.proofs.Common.{map, get_or, refl, sym, ◌∙◌, ap, arith}
use Rattle.std.specs.List.{All, AllByRecursion, Contains, IsDistinct, list_any}
use Rattle.std.proofs.lemmas.Bool.{eqb-true}
use Rattle.std.proofs.lemmas.List.{get_or_default}
use Rattle.std.proofs.lemmas.List.Elements.{All-append, All-head, All-tail, All-weaker}
use Rattle.std.proofs.lemmas.List.{get_or-map, length-map}
use Rattle.std.proofs.lemmas.Map.Steps.{length-le_from_distinct_below}
use Rattle.am_bv.specs.declared.term.Term.{Term}
use Rattle.am_tree.specs.Counts.{tuple_count}
use Rattle.am_tree.specs.Listed.{tuples_of}
use Rattle.am_tree.specs.Trees.{terms_of}
use Rattle.am_tree.proofs.Laws.{tuples_are_counted, tuples_are_listed}
use Rattle.am_problem.specs.Problem.{AreDerivable, Problem}

-- no two of a list are the same
abbrev pub AreDifferent : {A : Type 0} → List A → Type 0
AreDifferent [] = Unit {0}
AreDifferent (x ∷ xs) = All (λ y. x ≢ y) xs × AreDifferent xs

-- lists of different things that share nothing, put together
pub different-append : {A : Type 0} (xs ys : List A) → AreDifferent xs → AreDifferent ys →
    All (λ x. All (λ y. x ≢ y) ys) xs →
    AreDifferent (xs ++ ys)
different-append [] ys dx dy apart = dy
different-append (x ∷ xs) ys dx dy apart = (
  All-append (λ y. x ≢ y) xs ys dx.0 (All-head (λ z. All (λ y. z ≢ y) ys) x xs apart),
  different-append xs ys dx.1 dy (All-tail (λ z. All (λ y. z ≢ y) ys) x xs apart),
)

module _ {A : Type 0} (ys : List A) where
  -- the places at which they stand
  abbrev places : (xs : List A) → All (Contains ys) xs → List ℕ
  places [] within = []
  places (x ∷ xs) within = (All-head (Contains ys) x xs within).0 ∷ places xs (All-tail (Contains ys) x xs within)

  length-places : (xs : List A) (within : All (Contains ys) xs) → length (places xs within) ≡ length xs
  length-places [] within = refl
  length-places (x ∷ xs) within = ap suc (length-places xs (All-tail (Contains ys) x xs within))

  below : (xs : List A) (within : All (Contains ys) xs) (q : ℕ) → list_any (eqb q) (places xs within) ≡ true →
      q < length ys
  below [] within q there = cc
  below (x ∷ xs) within q there =
      let here : Contains ys x = All-head (Contains ys) x xs within in
      let rest : All (Contains ys) xs = All-tail (Contains ys) x xs within in
      go (eqb q here.0) (list_any (eqb q) (places xs rest)) (λ e. omega (arith, here.1, eqb-true q here.0 e))
      (below xs rest q) there
    where
      go : (t others : Bool) → (t ≡ true → q < length ys) → (others ≡ true → q < length ys) → (t || others) ≡ true →
          q < length ys
      go true others first rest any = first refl
      go false others first rest any = rest any

  -- where two stand at one place, they are the same
  same_there : (x y : A) (here : Contains ys x) (there : Contains ys y) → here.0 ≡ there.0 → x ≡ y
  same_there x y here there e =
      sym here.2 ∙ get_or_default ys here.0 x y here.1 ∙ ap (λ k. get_or ys k y) e ∙ there.2

  -- things that differ stand at places that differ
  apart : (x : A) (here : Contains ys x) (xs : List A) (within : All (Contains ys) xs) → All (λ y. x ≢ y) xs →
      AllByRecursion (λ k. eqb here.0 k ≡ false) (places xs within)
  apart x here [] within differ = tt
  apart x here (z ∷ zs) within differ =
      let there : Contains ys z = All-head (Contains ys) z zs within in
      let other : x ≢ z = All-head (λ y. x ≢ y) z zs differ in (
        go (eqb here.0 there.0) (λ e. other (same_there x z here there (eqb-true here.0 there.0 e))),
        apart x here zs (All-tail (Contains ys) z zs within) (All-tail (λ y. x ≢ y) z zs differ),
      )
    where
      go : (t : Bool) → (t ≡ true → ⊥) → t ≡ false
      go true other = absurd (other refl)
      go false other = refl

  distinct : (xs : List A) (within : All (Contains ys) xs) → AreDifferent xs → IsDistinct eqb (places xs within)
  unfolding IsDistinct
  distinct [] within differ = tt
  distinct (x ∷ xs) within differ =
      let rest = All-tail (Contains ys) x xs within in
      (apart x (All-head (Contains ys) x xs within) xs rest differ.0, distinct xs rest differ.1)

  -- different things of a list are at most as many as it has
  pub few : (xs : List A) → AreDifferent xs → All (Contains ys) xs → length xs ≤ length ys
  few xs differ within =
      let most =
      length-le_from_distinct_below (places xs within) (length ys) (distinct xs within differ) (below xs within) in
      omega (arith, most, length-places xs within)

-- different transformers of a problem are at most as many as its tuples of trees
pub different_transformers_are_few : (p : Problem) (terms : List (List Term)) → AreDifferent terms →
    All (AreDerivable p.rules p.starts p.depth) terms → length terms ≤ tuple_count p.rules p.starts p.depth
different_transformers_are_few p terms differ derive =
    let tuples = tuples_of p.rules p.starts p.depth in
    let give = terms_of p.rules p.starts in
    let listed : All (Contains (map give tuples)) terms =
    All-weaker (AreDerivable p.rules p.starts p.depth) (Contains (map give tuples)) (λ t d.
    let h = tuples_are_listed p.rules p.starts p.depth d.trees d.derive in (
      h.0,
      omega (arith, h.1, length-map tuples give),
      get_or-map give tuples h.0 d.trees t h.1 ∙ ap give h.2 ∙ sym d.give,
    )) terms derive in
    omega (
      arith,
      few (map give tuples) terms differ listed,
      length-map tuples give,
      tuples_are_counted p.rules p.starts p.depth,
    )
