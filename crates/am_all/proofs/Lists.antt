-- What loops over lists go on with.
use Rattle.std.proofs.Common.{◌≡◌, ℕ, zero, suc, ◌+◌, ◌<◌, ◌⊎◌, inl, inr, ◌↔◌, List, [], ◌∷◌, ◌++◌, length, map, take}
use Rattle.std.proofs.Common.{get_or, refl, sym, ap, ◌∙◌, subst, arith}
use Rattle.std.specs.Prelude.{All, Contains}
use Rattle.std.specs.List.{AllZip, Any}
use borrow.Author.Count.{below_more}
use Rattle.std.proofs.lemmas.List.{get_or-map, get_or_append_left, get_or_push, length-map, map_push, take-map}
use Rattle.std.proofs.lemmas.List.{take_more}

-- what holds of each place of a list holds of one more where it holds of the new item
pub each-push : {X : Type 0} (P : ℕ → X → Type 0) (xs : List X) (x d : X) (i : ℕ) → length xs ≡ i →
    ((n : ℕ) → n < i → P n (get_or xs n d)) → P i x →
    (n : ℕ) → n < i + 1 → P n (get_or (xs ++ x ∷ []) n d)
each-push P xs x d i e h here =
    below_more (λ n. P n (get_or (xs ++ x ∷ []) n d)) i
    (λ n l. subst (P n) (sym (get_or_append_left xs (x ∷ []) d n (omega (arith, e, l)))) (h n l))
    (subst (P i) (sym (get_or_push xs x d i e)) here)

-- one item of a mapped list more
pub taken : {X Y : Type 0} (view : X → Y) (xs : List X) (i : ℕ) (x : X) → i < length xs → x ≡ get_or xs i x →
    take (i + 1) (map view xs) ≡ take i (map view xs) ++ view x ∷ []
taken view xs i x l is =
    take-map view (i + 1) xs ∙ ap (map view) (take_more xs i x l ∙ ap (λ y. take i xs ++ y ∷ []) (sym is))
    ∙ map_push view (take i xs) x ∙ ap (λ ys. ys ++ view x ∷ []) (sym (take-map view i xs))

-- two rows, item by item

-- one item more on both sides
pub zip-push : {A B : Type 0} (R : A → B → Type 0) (xs : List A) (ys : List B) (x : A) (y : B) → AllZip R xs ys →
    R x y → AllZip R (xs ++ x ∷ []) (ys ++ y ∷ [])
zip-push R [] [] x y h r = (r, tt)
zip-push R [] (z ∷ ys) x y h r = absurd h
zip-push R (w ∷ xs) [] x y h r = absurd h
zip-push R (w ∷ xs) (z ∷ ys) x y h r = (h.0, zip-push R xs ys x y h.1 r)

-- one place more
pub zip-more : {A B : Type 0} (R : A → B → Type 0) (xs : List A) (ys : List B) (i : ℕ) (d : A) (e : B) →
    i < length xs → i < length ys →
    R (get_or xs i d) (get_or ys i e) → AllZip R (take i xs) (take i ys) → AllZip R (take (i + 1) xs) (take (i + 1) ys)
zip-more R xs ys i d e l m r h =
    rw (take_more xs i d l, take_more ys i e m) (zip-push R (take i xs) (take i ys) (get_or xs i d) (get_or ys i e) h r)

-- what holds of some item

-- it holds of the first
pub any-here : {A : Type 0} (P : A → Type 0) (x : A) (xs : List A) → P x → Any P (x ∷ xs)
any-here P x xs h = (0, x, omega arith, refl, h)

-- it holds of one of the rest
pub any-there : {A : Type 0} (P : A → Type 0) (x : A) (xs : List A) → Any P xs → Any P (x ∷ xs)
any-there P x xs h = (suc h.0, h.1, omega (arith, h.2), h.3, h.4)

-- it holds of none
pub any-none : {A : Type 0} (P : A → Type 0) → ¬ Any P []
any-none P h = omega (arith, h.2)

-- it holds of the first or of one of the rest
pub any-cases : {A : Type 0} (P : A → Type 0) (x : A) (xs : List A) → Any P (x ∷ xs) → P x ⊎ Any P xs
any-cases P x xs h = go h.0 h.1 h.2 h.3 h.4
  where
    go : (k : ℕ) (y : _) → k < length (x ∷ xs) → get_or (x ∷ xs) k y ≡ y → P y → P x ⊎ Any P xs
    go zero y l e p = inl (subst P (sym e) p)
    go (suc k) y l e p = inr (k, y, omega (arith, l), e, p)

-- it holds of one in either part
pub any-append : {A : Type 0} (P : A → Type 0) (xs ys : List A) → Any P (xs ++ ys) → Any P xs ⊎ Any P ys
any-append P [] ys h = inr h
any-append P (x ∷ xs) ys h = elim (any-cases P x (xs ++ ys) h) [
  | inl p ↦ inl (any-here P x xs p)
  | inr rest ↦ elim (any-append P xs ys rest) [ inl a ↦ inl (any-there P x xs a) | inr b ↦ inr b ]
]

-- it holds of one in the first part
pub any-left : {A : Type 0} (P : A → Type 0) (xs ys : List A) → Any P xs → Any P (xs ++ ys)
any-left P [] ys h = absurd (any-none P h)
any-left P (x ∷ xs) ys h = elim
    (any-cases P x xs h) [
      | inl p ↦ any-here P x (xs ++ ys) p
      | inr rest ↦ any-there P x (xs ++ ys)
          (any-left P xs ys rest)
    ]

-- it holds of one in the second part
pub any-right : {A : Type 0} (P : A → Type 0) (xs ys : List A) → Any P ys → Any P (xs ++ ys)
any-right P [] ys h = h
any-right P (x ∷ xs) ys h = any-there P x (xs ++ ys) (any-right P xs ys h)

-- one item more
pub any-more : {A : Type 0} (P : A → Type 0) (xs : List A) (i : ℕ) (x : A) → i < length xs → x ≡ get_or xs i x →
    Any P (take (i + 1) xs) ↔ (Any P (take i xs) ⊎ P x)
any-more P xs i x l is =
    let e : take (i + 1) xs ≡ take i xs ++ x ∷ [] = take_more xs i x l ∙ ap (λ y. take i xs ++ y ∷ []) (sym is) in (
      λ h. elim (any-append P (take i xs) (x ∷ []) (subst (Any P) e h)) [
        | inl a ↦ inl a
        | inr b ↦ elim (any-cases P x [] b) [ inl p ↦ inr p | inr n ↦ absurd (any-none P n) ]
      ],
      λ h. subst (Any P) (sym e) (elim h
          [ inl a ↦ any-left P (take i xs) (x ∷ []) a | inr p ↦ any-right P (take i xs) (x ∷ []) (any-here P x [] p) ]),
    )

-- something weaker holds of it
pub any-weaker : {A : Type 0} (P Q : A → Type 0) → ((x : A) → P x → Q x) → (xs : List A) → Any P xs → Any Q xs
any-weaker P Q f xs h = (h.0, h.1, h.2, h.3, f h.1 h.4)

-- an item of a list
pub any-contains : {A : Type 0} (xs : List A) (x : A) → Contains xs x ↔ Any (λ y. y ≡ x) xs
any-contains xs x = (
  λ h. (h.0, x, h.1, h.2, refl),
  λ h. (h.0, h.2, ap (get_or xs h.0) (sym h.4) ∙ h.3 ∙ h.4),
)

-- an item of a list in a place where all have a property
pub any-all : {A : Type 0} (P Q : A → Type 0) (xs : List A) → All P xs → Any Q xs → Any (λ x. P x × Q x) xs
any-all P Q xs all h = (h.0, h.1, h.2, h.3, (subst P h.3 (all h.0 h.1 h.2), h.4))

-- what holds of all items of a mapped list
pub all-unmap : {X Y : Type 0} (P : Y → Type 0) (f : X → Y) (xs : List X) → All P (map f xs) → All (λ x. P (f x)) xs
all-unmap P f xs all = λ k d l. subst P (get_or-map f xs k d (f d) l) (all k (f d) (simp length-map l))
