-- Choices from rows of lists, one list more at the end.
use Rattle.std.proofs.Common.{◌≡◌, ℕ, ◌+◌, ◌<◌, List, [], ◌∷◌, ◌++◌, map, length, take, get_or, refl, sym, ◌∙◌, ap}
use Rattle.std.specs.List.{flat_map}
use Rattle.std.proofs.lemmas.List.{append-nil, map-append, take_more}
use Rattle.std.proofs.lemmas.List.Concat.{flat_map-append, flat_map_single}
use Rattle.am_tree.specs.Listed.{choices}

flat_map-flat_map : {A B C : Type 0} (f : B → List C) (g : A → List B) (xs : List A) →
    flat_map f (flat_map g xs) ≡ flat_map (λ x. flat_map f (g x)) xs
flat_map-flat_map f g [] = refl
flat_map-flat_map f g (x ∷ xs) =
    flat_map-append f (g x) (flat_map g xs) ∙ ap (λ ys. flat_map f (g x) ++ ys) (flat_map-flat_map f g xs)

flat_map-same : {A B : Type 0} (f g : A → List B) → ((x : A) → f x ≡ g x) → (xs : List A) →
    flat_map f xs ≡ flat_map g xs
flat_map-same f g same [] = refl
flat_map-same f g same (x ∷ xs) =
    ap (λ ys. ys ++ flat_map f xs) (same x) ∙ ap (λ ys. g x ++ ys) (flat_map-same f g same xs)

-- two functions, one after the other
pub map-map : {A B C : Type 0} (f : B → C) (g : A → B) (xs : List A) → map f (map g xs) ≡ map (λ x. f (g x)) xs
map-map f g [] = refl
map-map f g (x ∷ xs) = ap (λ ys. f (g x) ∷ ys) (map-map f g xs)

-- each of the rows with each of the items after it
abbrev pub extended : {A : Type 0} → List A → List (List A) → List (List A)
extended xs rows = flat_map (λ row. map (λ x. row ++ x ∷ []) xs) rows

extended-map : {A : Type 0} (xs : List A) (y : A) (rows : List (List A)) →
    extended xs (map (λ row. y ∷ row) rows) ≡ map (λ row. y ∷ row) (extended xs rows)
extended-map xs y [] = refl
extended-map xs y (row ∷ rows) =
    ap (λ ys. map (λ x. y ∷ (row ++ x ∷ [])) xs ++ ys) (extended-map xs y rows)
    ∙ ap (λ ys. ys ++ map (λ r. y ∷ r) (extended xs rows)) (sym (map-map (λ r. y ∷ r) (λ x. row ++ x ∷ []) xs))
    ∙ sym (map-append (λ r. y ∷ r) (map (λ x. row ++ x ∷ []) xs) (extended xs rows))

-- one list more
pub choices-push : {A : Type 0} (lists : List (List A)) (xs : List A) →
    choices (lists ++ xs ∷ []) ≡ extended xs (choices lists)
choices-push [] xs = flat_map_single (λ x. x ∷ []) xs ∙ sym (append-nil (map (λ x. x ∷ []) xs))
choices-push (list ∷ lists) xs =
    ap (λ rows. flat_map (λ y. map (λ row. y ∷ row) rows) list) (choices-push lists xs)
    ∙ flat_map-same (λ y. map (λ row. y ∷ row) (extended xs (choices lists)))
    (λ y. extended xs (map (λ row. y ∷ row) (choices lists)))
    (λ y. sym (extended-map xs y (choices lists))) list
    ∙ sym (flat_map-flat_map (λ row. map (λ x. row ++ x ∷ []) xs) (λ y. map (λ row. y ∷ row) (choices lists)) list)

-- a loop over the rows goes on
pub extended-more : {A R : Type 0} (view : R → List A) (xs : List A) (rows : List R) (i : ℕ) (row : R)
    (so_far next : List (List A)) →
    i < length rows → row ≡ get_or rows i row → so_far ≡ extended xs (map view (take i rows)) →
    next ≡ so_far ++ map (λ x. view row ++ x ∷ []) xs → next ≡ extended xs (map view (take (i + 1) rows))
extended-more view xs rows i row so_far next l is h e =
    let more : map view (take (i + 1) rows) ≡ map view (take i rows) ++ view row ∷ [] =
    ap (map view) (take_more rows i row l ∙ ap (λ r. take i rows ++ r ∷ []) (sym is)) ∙ map-append view (take i rows)
    (row ∷ []) in
    e ∙ ap (λ ys. ys ++ map (λ x. view row ++ x ∷ []) xs) h
    ∙ sym (ap (extended xs) more ∙ flat_map-append (λ r. map (λ x. r ++ x ∷ []) xs) (map view (take i rows))
    (view row ∷ [])
    ∙ ap (λ ys. extended xs (map view (take i rows)) ++ ys) (append-nil (map (λ x. view row ++ x ∷ []) xs)))

-- a loop over the lists goes on
pub choices-more : {A L : Type 0} (view : L → List A) (lists : List L) (i : ℕ) (list : L)
    (so_far next : List (List A)) →
    i < length lists → list ≡ get_or lists i list → so_far ≡ choices (map view (take i lists)) →
    next ≡ extended (view list) so_far → next ≡ choices (map view (take (i + 1) lists))
choices-more view lists i list so_far next l is h e =
    let more : map view (take (i + 1) lists) ≡ map view (take i lists) ++ view list ∷ [] =
    ap (map view) (take_more lists i list l ∙ ap (λ r. take i lists ++ r ∷ []) (sym is)) ∙ map-append view
    (take i lists) (list ∷ []) in
    e ∙ ap (extended (view list)) h ∙ sym (ap choices more ∙ choices-push (map view (take i lists)) (view list))

map-flat_map : {A B C : Type 0} (f : B → C) (g : A → List B) (xs : List A) →
    map f (flat_map g xs) ≡ flat_map (λ x. map f (g x)) xs
map-flat_map f g [] = refl
map-flat_map f g (x ∷ xs) = map-append f (g x) (flat_map g xs) ∙ ap (λ ys. map f (g x) ++ ys) (map-flat_map f g xs)

flat_map-map : {A B C : Type 0} (f : B → List C) (g : A → B) (xs : List A) →
    flat_map f (map g xs) ≡ flat_map (λ x. f (g x)) xs
flat_map-map f g [] = refl
flat_map-map f g (x ∷ xs) = ap (λ ys. f (g x) ++ ys) (flat_map-map f g xs)

-- the choices from mapped lists
pub choices-map : {A B : Type 0} (f : A → B) (lists : List (List A)) →
    choices (map (map f) lists) ≡ map (map f) (choices lists)
choices-map f [] = refl
choices-map f (xs ∷ lists) =
    ap (λ rows. flat_map (λ y. map (λ row. y ∷ row) rows) (map f xs)) (choices-map f lists)
    ∙ flat_map-map (λ y. map (λ row. y ∷ row) (map (map f) (choices lists))) f xs
    ∙ flat_map-same (λ x. map (λ row. f x ∷ row) (map (map f) (choices lists)))
    (λ x. map (map f) (map (λ row. x ∷ row) (choices lists)))
    (λ x. map-map (λ row. f x ∷ row) (map f) (choices lists) ∙ sym
    (map-map (map f) (λ row. x ∷ row) (choices lists))) xs
    ∙ sym (map-flat_map (map f) (λ x. map (λ row. x ∷ row) (choices lists)) xs)
