-- Facts on lists: all items by places and by recursion.
use Rattle.std.proofs.Common.{◌≡◌, ℕ, zero, suc, ◌+◌, take, get_or, ◌<◌, List, [], ◌∷◌, ◌++◌, length, All, map, refl}
use Rattle.std.proofs.Common.{ap, ◌∙◌, arith, subst, sym}
use Rattle.std.proofs.lemmas.List.{get_or-map, length-map}
use Rattle.std.specs.List.{AllByRecursion, range_with_len}
use Rattle.std.specs.Prelude.{slice_index_or}

module _ {X : Type 0} (P : X → Type 0) where
  -- what holds of each item one after another holds at each place
  pub all_places : (xs : List X) → AllByRecursion P xs → All P xs
  all_places [] h k d below = absurd (omega (arith, below))
  all_places (x ∷ xs) h zero d below = h.0
  all_places (x ∷ xs) h (suc k) d below = all_places xs h.1 k d (omega (arith, below))

  -- what holds at each place holds of each item one after another
  pub all_items : (xs : List X) → All P xs → AllByRecursion P xs
  all_items [] h = tt
  all_items (x ∷ xs) h = (h zero x (omega arith), all_items xs (λ k d below. h (suc k) d (omega (arith, below))))

-- what follows from a property holds of all items that have it
pub all_more : {X : Type 0} (P Q : X → Type 0) → ((x : X) → P x → Q x) → (xs : List X) → AllByRecursion P xs →
    AllByRecursion Q xs
all_more P Q f [] h = tt
all_more P Q f (x ∷ xs) h = (f x h.0, all_more P Q f xs h.1)

pub all_map : {X Y : Type 0} (P : Y → Type 0) (f : X → Y) (xs : List X) → AllByRecursion (λ x. P (f x)) xs →
    AllByRecursion P (map f xs)
all_map P f [] h = tt
all_map P f (x ∷ xs) h = (h.0, all_map P f xs h.1)

pub all_unmap : {X Y : Type 0} (P : Y → Type 0) (f : X → Y) (xs : List X) → AllByRecursion P (map f xs) →
    AllByRecursion (λ x. P (f x)) xs
all_unmap P f [] h = tt
all_unmap P f (x ∷ xs) h = (h.0, all_unmap P f xs h.1)

pub all_both : {X : Type 0} (P Q : X → Type 0) (xs : List X) → AllByRecursion P xs → AllByRecursion Q xs →
    AllByRecursion (λ x. P x × Q x) xs
all_both P Q [] h k = tt
all_both P Q (x ∷ xs) h k = ((h.0, k.0), all_both P Q xs h.1 k.1)

-- what holds of all that a function makes of items holds of what it makes of the one at a place
pub made_holds : {X Y : Type 0} (P : Y → Type 0) (f : X → Y) (xs : List X) (i : ℕ) (d x : X) → All P (map f xs) →
    i < length xs → x ≡ get_or xs i d → P (f x)
made_holds P f xs i d x all below is =
    let within : i < length (map f xs) = omega (arith, below, length-map xs f) in
    subst P (get_or-map f xs i d (f d) below ∙ ap f (sym is)) (all i (f d) within)

-- what is the same at all items
pub map_same : {X Y : Type 0} (f g : X → Y) (xs : List X) → AllByRecursion (λ x. f x ≡ g x) xs → map f xs ≡ map g xs
map_same f g [] h = refl
map_same f g (x ∷ xs) h = ap (λ y. y ∷ map f xs) h.0 ∙ ap (λ ys. g x ∷ ys) (map_same f g xs h.1)

pub map_itself : {X : Type 0} (f : X → X) (xs : List X) → AllByRecursion (λ x. f x ≡ x) xs → map f xs ≡ xs
map_itself f [] h = refl
map_itself f (x ∷ xs) h = ap (λ y. y ∷ map f xs) h.0 ∙ ap (λ ys. x ∷ ys) (map_itself f xs h.1)

pub map_map : {X Y Z : Type 0} (f : Y → Z) (g : X → Y) (xs : List X) → map f (map g xs) ≡ map (λ x. f (g x)) xs
map_map f g [] = refl
map_map f g (x ∷ xs) = ap (λ ys. f (g x) ∷ ys) (map_map f g xs)

grows_suc : {X Y Z : Type 0} (f : Y → Z) (g : X → Y) (xs : List X) (i : ℕ) (d : X) → i < length xs →
    map f (map g (take (suc i) xs)) ≡ map f (map g (take i xs)) ++ f (g (get_or xs i d)) ∷ []
grows_suc f g [] i d below = absurd (omega (arith, below))
grows_suc f g (x ∷ xs) zero d below = refl
grows_suc f g (x ∷ xs) (suc i) d below = ap (λ ys. f (g x) ∷ ys) (grows_suc f g xs i d (omega (arith, below)))

-- one more item of a list that is mapped twice
pub map_grows : {X Y Z : Type 0} (f : Y → Z) (g : X → Y) (xs : List X) (i : ℕ) (d : X) → i < length xs →
    map f (map g (take (i + 1) xs)) ≡ map f (map g (take i xs)) ++ f (g (get_or xs i d)) ∷ []
map_grows f g xs i d below =
    ap (λ k. map f (map g (take k xs))) (let e : i + 1 ≡ suc i = omega arith in e) ∙ grows_suc f g xs i d below

-- what holds of all items holds of the one at a place
pub item_holds : {X : Type 0} (P : X → Type 0) (xs : List X) (i : ℕ) (d : X) → P d → AllByRecursion P xs →
    P (slice_index_or xs i d)
item_holds P [] i d other each = other
item_holds P (x ∷ xs) zero d other each = each.0
item_holds P (x ∷ xs) (suc i) d other each = item_holds P xs i d other each.1

range_with_len-suc : (a n : ℕ) → range_with_len a (suc n) ≡ range_with_len a n ++ (a + n) ∷ []
range_with_len-suc a zero = ap (λ i. i ∷ []) (omega arith)
range_with_len-suc a (suc n) =
    ap (λ is. a ∷ is) (range_with_len-suc (a + 1) n ∙ ap (λ i. range_with_len (a + 1) n ++ i ∷ []) (omega arith))

-- one more number of a range
pub range_with_len-more : (n : ℕ) → range_with_len 0 (n + 1) ≡ range_with_len 0 n ++ n ∷ []
range_with_len-more n =
    ap (range_with_len 0) (let e : n + 1 ≡ suc n = omega arith in e) ∙ range_with_len-suc 0 n
    ∙ ap (λ i. range_with_len 0 n ++ i ∷ []) (let e : 0 + n ≡ n = omega arith in e)
