-- What stands at a place of a list.
use Rattle.std.proofs.Common.{◌≡◌, ℕ, zero, suc, ◌+◌, Bool, true, false, List, [], ◌∷◌, ◌++◌, ◌||◌, length, refl, sym}
use Rattle.std.proofs.Common.{◌∙◌, ap, subst, arith}
use Rattle.std.specs.Prelude.{Some, slice_get}
use Rattle.std.specs.List.{AllByRecursion, AllZip, list_any}

-- an item of a list is at its place also of the list with more behind it
pub get-before : {A : Type 0} (xs ys : List A) (j : ℕ) (x : A) → slice_get xs j ≡ Some x →
    slice_get (xs ++ ys) j ≡ Some x
get-before [] ys j x e = cc
get-before (y ∷ xs) ys zero x e = e
get-before (y ∷ xs) ys (suc j) x e = get-before xs ys j x e

-- an item of a list is so many places later with as many before it
pub get-behind : {A : Type 0} (xs ys : List A) (j : ℕ) → slice_get (xs ++ ys) (length xs + j) ≡ slice_get ys j
get-behind [] ys j =
    let e : 0 + j ≡ j = omega arith in
    rw e refl
get-behind (x ∷ xs) ys j =
    let e : suc (length xs) + j ≡ suc (length xs + j) = omega arith in
    rw e (get-behind xs ys j)

-- the list goes on with these items from a place on
abbrev pub From : {A : Type 0} → List A → ℕ → List A → Type 0
From all first xs = (j : ℕ) → slice_get all (first + j) ≡ slice_get xs j

-- a list goes on with all of itself
pub from-start : {A : Type 0} (xs : List A) → From xs 0 xs
from-start xs j =
    let e : 0 + j ≡ j = omega arith in
    rw e refl

-- behind some of the items it goes on with the others
pub from-behind : {A : Type 0} (all : List A) (first : ℕ) (xs ys : List A) → From all first (xs ++ ys) →
    From all (first + length xs) ys
from-behind all first xs ys h j =
    let e : first + length xs + j ≡ first + (length xs + j) = omega arith in
    rw e (h (length xs + j) ∙ get-behind xs ys j)

-- it has an item of the first ones at its place
pub from-before : {A : Type 0} (all : List A) (first : ℕ) (xs ys : List A) (j : ℕ) (x : A) → From all first (xs ++ ys) →
    slice_get xs j ≡ Some x → slice_get all (first + j) ≡ Some x
from-before all first xs ys j x h e = h j ∙ get-before xs ys j x e

-- two lists, place by place

-- what holds of two lists holds of the items at one place
pub zip-get : {A B : Type 0} (R : A → B → Type 0) (xs : List A) (ys : List B) (m : ℕ) (x : A) (y : B) →
    AllZip R xs ys → slice_get xs m ≡ Some x → slice_get ys m ≡ Some y → R x y
zip-get R [] [] m x y h e f = cc
zip-get R [] (w ∷ ys) m x y h e f = absurd h
zip-get R (v ∷ xs) [] m x y h e f = absurd h
zip-get R (v ∷ xs) (w ∷ ys) zero x y h e f =
    let first : v ≡ x = cc in
    let second : w ≡ y = cc in
    rw (← first, ← second) h.0
zip-get R (v ∷ xs) (w ∷ ys) (suc m) x y h e f = zip-get R xs ys m x y h.1 e f

-- two related lists have both an item at a place where the first has one
pub zip-second : {A B : Type 0} (R : A → B → Type 0) (xs : List A) (ys : List B) (m : ℕ) (x : A) → AllZip R xs ys →
    slice_get xs m ≡ Some x → (y : B) × (slice_get ys m ≡ Some y)
zip-second R [] [] m x h e = cc
zip-second R [] (w ∷ ys) m x h e = absurd h
zip-second R (v ∷ xs) [] m x h e = absurd h
zip-second R (v ∷ xs) (w ∷ ys) zero x h e = (w, refl)
zip-second R (v ∷ xs) (w ∷ ys) (suc m) x h e = zip-second R xs ys m x h.1 e

-- and where the second has one
pub zip-first : {A B : Type 0} (R : A → B → Type 0) (xs : List A) (ys : List B) (m : ℕ) (y : B) → AllZip R xs ys →
    slice_get ys m ≡ Some y → (x : A) × (slice_get xs m ≡ Some x)
zip-first R [] [] m y h e = cc
zip-first R [] (w ∷ ys) m y h e = absurd h
zip-first R (v ∷ xs) [] m y h e = absurd h
zip-first R (v ∷ xs) (w ∷ ys) zero y h e = (v, refl)
zip-first R (v ∷ xs) (w ∷ ys) (suc m) y h e = zip-first R xs ys m y h.1 e

-- what holds of the items at each place holds of two lists that are as long
pub zip-from : {A B : Type 0} (R : A → B → Type 0) (xs : List A) (ys : List B) → length xs ≡ length ys →
    ((m : ℕ) (x : A) (y : B) → slice_get xs m ≡ Some x → slice_get ys m ≡ Some y → R x y) → AllZip R xs ys
zip-from R [] [] e h = tt
zip-from R [] (y ∷ ys) e h = cc
zip-from R (x ∷ xs) [] e h = cc
zip-from R (x ∷ xs) (y ∷ ys) e h =
    (h 0 x y refl refl, zip-from R xs ys (omega (arith, e)) (λ m a b f g. h (suc m) a b f g))

-- two pairs of related lists, one behind the other
pub zip-append : {A B : Type 0} (R : A → B → Type 0) (xs : List A) (ys : List B) (vs : List A) (ws : List B) →
    AllZip R xs ys → AllZip R vs ws → AllZip R (xs ++ vs) (ys ++ ws)
zip-append R [] [] vs ws h k = k
zip-append R [] (y ∷ ys) vs ws h k = absurd h
zip-append R (x ∷ xs) [] vs ws h k = absurd h
zip-append R (x ∷ xs) (y ∷ ys) vs ws h k = (h.0, zip-append R xs ys vs ws h.1 k)

-- items of one list

-- what holds of each item holds of the one at a place
pub each-get : {A : Type 0} (P : A → Type 0) (xs : List A) (k : ℕ) (x : A) → AllByRecursion P xs →
    slice_get xs k ≡ Some x → P x
each-get P [] k x h e = cc
each-get P (y ∷ xs) zero x h e =
    let same : y ≡ x = cc in
    rw (← same) h.0
each-get P (y ∷ xs) (suc k) x h e = each-get P xs k x h.1 e

-- where some item passes a test, there is one
pub any-get : {A : Type 0} (test : A → Bool) (xs : List A) → list_any test xs ≡ true →
    (k : ℕ) × (x : A) × (slice_get xs k ≡ Some x) × (test x ≡ true)
any-get test [] h = cc
any-get test (x ∷ xs) h = go (test x) refl (any-get test xs)
  where
    go : (b : Bool) → test x ≡ b →
        (list_any test xs ≡ true → (k : ℕ) × (y : _) × (slice_get xs k ≡ Some y) × (test y ≡ true)) →
        (k : ℕ) × (y : _) × (slice_get (x ∷ xs) k ≡ Some y) × (test y ≡ true)
    go true e more = (0, x, refl, e)
    go false e more =
        let rest = more (rw e at h) in
        (suc rest.0, rest.1, rest.2, rest.3)

-- what holds of each item of two lists holds of each of them joined
pub each-append : {A : Type 0} (P : A → Type 0) (xs ys : List A) → AllByRecursion P xs → AllByRecursion P ys →
    AllByRecursion P (xs ++ ys)
each-append P [] ys h k = k
each-append P (x ∷ xs) ys h k = (h.0, each-append P xs ys h.1 k)
