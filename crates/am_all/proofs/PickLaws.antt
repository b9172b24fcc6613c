-- What stands among the choices from rows of lists.
use Rattle.std.proofs.Common.{◌≡◌, ℕ, zero, suc, inl, inr, ◌↔◌, List, [], ◌∷◌, length, map, replicate, refl, ap}
use Rattle.std.proofs.Common.{subst, arith}
use Rattle.std.specs.Prelude.{All, Contains}
use Rattle.std.specs.List.{AllZip, Any, flat_map}
use Rattle.std.proofs.lemmas.List.Elements.{All-cons, All-head, All-nil, All-tail}
use Rattle.am_tree.specs.Listed.{choices}
use Rattle.am_all.proofs.Lists.{any-append, any-cases, any-contains, any-here, any-left, any-none, any-right, any-there}

-- some item of a list made of lists
pub any-flat_map : {A B : Type 0} (P : B → Type 0) (f : A → List B) (xs : List A) → Any P (flat_map f xs) ↔
    Any (λ x. Any P (f x)) xs
any-flat_map P f xs = (there xs, back xs)
  where
    there : (xs : _) → Any P (flat_map f xs) → Any (λ x. Any P (f x)) xs
    there [] h = absurd (any-none P h)
    there (x ∷ xs) h = elim (any-append P (f x) (flat_map f xs) h) [
      | inl a ↦ any-here (λ x. Any P (f x)) x xs a
      | inr b ↦ any-there (λ x. Any P (f x)) x xs (there xs b)
    ]

    back : (xs : _) → Any (λ x. Any P (f x)) xs → Any P (flat_map f xs)
    back [] h = absurd (any-none (λ x. Any P (f x)) h)
    back (x ∷ xs) h = elim (any-cases (λ x. Any P (f x)) x xs h) [
      | inl a ↦ any-left P (f x) (flat_map f xs) a
      | inr b ↦ any-right P (f x) (flat_map f xs) (back xs b)
    ]

-- some item of a mapped list
pub any-map : {A B : Type 0} (P : B → Type 0) (f : A → B) (xs : List A) → Any P (map f xs) ↔ Any (λ x. P (f x)) xs
any-map P f xs = (there xs, back xs)
  where
    there : (xs : _) → Any P (map f xs) → Any (λ x. P (f x)) xs
    there [] h = absurd (any-none P h)
    there (x ∷ xs) h = elim (any-cases P (f x) (map f xs) h)
        [ inl p ↦ any-here (λ x. P (f x)) x xs p | inr rest ↦ any-there (λ x. P (f x)) x xs (there xs rest) ]

    back : (xs : _) → Any (λ x. P (f x)) xs → Any P (map f xs)
    back [] h = absurd (any-none (λ x. P (f x)) h)
    back (x ∷ xs) h = elim (any-cases (λ x. P (f x)) x xs h)
        [ inl p ↦ any-here P (f x) (map f xs) p | inr rest ↦ any-there P (f x) (map f xs) (back xs rest) ]

choices-each : {A : Type 0} (lists : List (List A)) (row : List A) → Any (λ r. r ≡ row) (choices lists) →
    AllZip Contains lists row
choices-each [] row h = elim (any-cases (λ r. r ≡ row) [] [] h)
    [ inl e ↦ subst (AllZip Contains []) e tt | inr none ↦ absurd (any-none (λ r. r ≡ row) none) ]
choices-each (xs ∷ lists) row h =
    let picked = (any-flat_map (λ r. r ≡ row) (λ x. map (λ others. x ∷ others) (choices lists)) xs).0 h in
    let x = picked.1 in
    let rest = (any-map (λ r. r ≡ row) (λ others. x ∷ others) (choices lists)).0 picked.4 in
    let others = rest.1 in
    subst (AllZip Contains (xs ∷ lists)) rest.4
    ((picked.0, picked.2, picked.3), choices-each lists others (rest.0, others, rest.2, rest.3, refl))

choices-has : {A : Type 0} (lists : List (List A)) (row : List A) → AllZip Contains lists row →
    Any (λ r. r ≡ row) (choices lists)
choices-has [] [] h = any-here (λ r. r ≡ []) [] [] refl
choices-has [] (y ∷ row) h = absurd h
choices-has (xs ∷ lists) [] h = absurd h
choices-has (xs ∷ lists) (y ∷ row) h =
    let rest = choices-has lists row h.1 in
    (any-flat_map (λ r. r ≡ y ∷ row) (λ x. map (λ others. x ∷ others) (choices lists)) xs).1 (
      h.0.0,
      y,
      h.0.1,
      h.0.2,
      (any-map (λ r. r ≡ y ∷ row) (λ others. y ∷ others) (choices lists)).1
          (rest.0, rest.1, rest.2, rest.3, ap (λ r. y ∷ r) rest.4),
    )

-- a row is one of the choices exactly where each of its items stands in its list
pub choices-are : {A : Type 0} (lists : List (List A)) (row : List A) → Contains (choices lists) row ↔
    AllZip Contains lists row
choices-are lists row = (
  λ h. choices-each lists row ((any-contains (choices lists) row).0 h),
  λ h. (any-contains (choices lists) row).1 (choices-has lists row h),
)

-- items that stand in the same list
pub zip-replicate : {A B : Type 0} (R : A → B → Type 0) (n : ℕ) (x : A) (ys : List B) → AllZip R (replicate n x) ys ↔
    ((length ys ≡ n) × All (R x) ys)
zip-replicate R n x ys = (there n ys, λ h. back n ys h.0 h.1)
  where
    there : (n : _) (ys : _) → AllZip R (replicate n x) ys → (length ys ≡ n) × All (R x) ys
    there zero [] h = (refl, All-nil (R x))
    there zero (y ∷ ys) h = absurd h
    there (suc n) [] h = absurd h
    there (suc n) (y ∷ ys) h = let rest = there n ys h.1 in (ap suc rest.0, All-cons (R x) y ys h.0 rest.1)

    back : (n : _) (ys : _) → length ys ≡ n → All (R x) ys → AllZip R (replicate n x) ys
    back zero [] e h = tt
    back zero (y ∷ ys) e h = absurd (omega (arith, e))
    back (suc n) [] e h = absurd (omega (arith, e))
    back (suc n) (y ∷ ys) e h = (All-head (R x) y ys h, back n ys (omega (arith, e)) (All-tail (R x) y ys h))
