-- Where the slots of a level and the children of a slot stand.
use Rattle.std.proofs.Common.{◌≡◌, ℕ, zero, suc, ◌+◌, eqb, Bool, true, false, cond, List, [], ◌∷◌, ◌++◌, length, map}
use Rattle.std.proofs.Common.{refl, sym, ◌∙◌, ap, subst, arith}
use Rattle.std.specs.Prelude.{None, Option, Some, slice_get, slice_index_or}
use Rattle.std.specs.List.{AllByRecursion, list_any}
use Rattle.std.proofs.lemmas.List.{length-map}
use Rattle.std.proofs.lemmas.Option.{same_Some, slice_get-map}
use Rattle.am_tree.specs.declared.slots.Argument.{Argument}
use Rattle.am_tree.specs.Laid.{HasProduction}
use Rattle.am_tree.specs.Slots.{Numbered, arguments, at_argument, counted, level_slots, next_level, offered, same}
use Rattle.am_tree.specs.Slots.{shared, slot_at}
use Rattle.am_tree.specs.Trees.{Rules}
use Rattle.am_tree.proofs.Offers.{Stands, same-true}
use Rattle.am_tree.proofs.Places.{get-before, get-behind}

-- how many children the slots before a place of a level have
abbrev pub before : Rules → ℕ → List ℕ → ℕ → ℕ
before rules below [] j = 0
before rules below (n ∷ ns) zero = 0
before rules below (n ∷ ns) (suc j) = length (shared rules below n) + before rules below ns j

-- the slot of a nonterminal of a level
pub level-get : (rules : Rules) (below level child : ℕ) (ns : List ℕ) (j n : ℕ) → slice_get ns j ≡ Some n →
    slice_get (level_slots rules below level child ns) j
    ≡ Some (slot_at rules below level (child + before rules below ns j) n)
level-get rules below level child [] j n e = cc
level-get rules below level child (m ∷ ns) zero n e =
    let named : m ≡ n = cc in
    let here : child + 0 ≡ child = omega arith in
    rw (here, named) refl
level-get rules below level child (m ∷ ns) (suc j) n e =
    let more = length (shared rules below m) in
    let there : child + more + before rules below ns j ≡ child + (more + before rules below ns j) = omega arith in
    level-get rules below level (child + more) ns j n e
    ∙ ap (λ k. Some (slot_at rules below level k n)) there

-- what a function gives for the children of each slot of a level, where xs are what it knows of the level's slots
abbrev pub next_by : {X Y : Type 0} → Rules → ℕ → (ℕ → X → Argument → Y) → List ℕ → List X → List Y
next_by rules below f [] xs = []
next_by rules below f (n ∷ ns) [] = []
next_by rules below f (n ∷ ns) (x ∷ xs) = map (f n x) (shared rules below n) ++ next_by rules below f ns xs

get-map : {A B : Type 0} (f : A → B) (xs : List A) (k : ℕ) (x : A) → slice_get xs k ≡ Some x →
    slice_get (map f xs) k ≡ Some (f x)
get-map f [] k x e = cc
get-map f (y ∷ xs) zero x e =
    let named : y ≡ x = cc in
    rw named refl
get-map f (y ∷ xs) (suc k) x e = get-map f xs k x e

-- what stands behind those of the level's first nonterminal
behind-first : {A : Type 0} (xs ys : List A) (i k : ℕ) (o : Option A) → slice_get ys (i + k) ≡ o → (m : ℕ) →
    length xs ≡ m →
    slice_get (xs ++ ys) (m + i + k) ≡ o
behind-first xs ys i k o e m l =
    let there : m + i + k ≡ length xs + (i + k) = omega (arith, l) in
    rw there (get-behind xs ys (i + k) ∙ e)

-- the nonterminal of a child on the next level
pub next-get : (rules : Rules) (below : ℕ) (ns : List ℕ) (j n k : ℕ) (a : Argument) → slice_get ns j ≡ Some n →
    slice_get (shared rules below n) k ≡ Some a →
    slice_get (next_level rules below ns) (before rules below ns j + k) ≡ Some a.symbol
next-get rules below [] j n k a e f = cc
next-get rules below (m ∷ ns) zero n k a e f =
    let named : m ≡ n = cc in
    let here : 0 + k ≡ k = omega arith in
    let own = get-map (λ (b : Argument). b.symbol) (shared rules below n) k a f in
    rw (here, named)
    (get-before (map (λ (b : Argument). b.symbol) (shared rules below n)) (next_level rules below ns) k a.symbol own)
next-get rules below (m ∷ ns) (suc j) n k a e f =
    behind-first (map (λ (b : Argument). b.symbol) (shared rules below m)) (next_level rules below ns)
    (before rules below ns j) k (Some a.symbol) (next-get rules below ns j n k a e f) (length (shared rules below m))
    (length-map (shared rules below m) (λ (b : Argument). b.symbol))

-- what a function gives for a child
pub by-get : {X Y : Type 0} (rules : Rules) (below : ℕ) (f : ℕ → X → Argument → Y) (ns : List ℕ) (xs : List X)
    (j n : ℕ) (x : X) (k : ℕ) (a : Argument) →
    slice_get ns j ≡ Some n → slice_get xs j ≡ Some x → slice_get (shared rules below n) k ≡ Some a →
    slice_get (next_by rules below f ns xs) (before rules below ns j + k) ≡ Some (f n x a)
by-get rules below f [] xs j n x k a e g h = cc
by-get rules below f (m ∷ ns) [] j n x k a e g h = cc
by-get rules below f (m ∷ ns) (y ∷ xs) zero n x k a e g h =
    let named : m ≡ n = cc in
    let known : y ≡ x = cc in
    let here : 0 + k ≡ k = omega arith in
    rw (here, named, known)
    (get-before (map (f n x) (shared rules below n)) (next_by rules below f ns xs) k (f n x a)
    (get-map (f n x) (shared rules below n) k a h))
by-get rules below f (m ∷ ns) (y ∷ xs) (suc j) n x k a e g h =
    behind-first (map (f m y) (shared rules below m)) (next_by rules below f ns xs)
    (before rules below ns j) k (Some (f n x a)) (by-get rules below f ns xs j n x k a e g h)
    (length (shared rules below m))
    (length-map (shared rules below m) (f m y))

-- a child of a slot, and its number
pub record ChildAt (children : List Argument) (child : ℕ) (a : Argument) : Type 0 where
  pub place : ℕ
  pub here : slice_get children place ≡ Some a
  pub number : at_argument 0 children (counted child children) a ≡ child + place

-- each argument that stands among the children has one
pub child-at : (children : List Argument) (child : ℕ) (a : Argument) → Stands children a → ChildAt children child a
child-at [] child a h = cc
child-at (k ∷ ks) child a h = go (same a k) refl (child-at ks (child + 1) a)
  where
    go : (b : Bool) → same a k ≡ b → (Stands ks a → ChildAt ks (child + 1) a) → ChildAt (k ∷ ks) child a
    go true e more = record {
      place = 0;
      here = ap Some (sym (same-true a k e));
      number = rw e (let here : child ≡ child + 0 = omega arith in here);
    }
    go false e more =
        let rest = more (rw e at h) in
        let there : child + 1 + rest.place ≡ child + suc rest.place = omega arith in
        record {
          place = suc rest.place;
          here = rest.here;
          number = rw e (rest.number ∙ there);
        }

-- the production of a slot, with the numbers of the slots at its arguments
pub record IsProductionAt (rules : Rules) (below child n production : ℕ) (row : List ℕ) : Type 0 where
  pub place : ℕ
  pub own : Numbered
  pub offers : slice_get (offered rules below n) place ≡ Some own
  pub numbered : own.number ≡ production
  pub rowed : map (at_argument 0 (shared rules below n) (counted child (shared rules below n)))
      (arguments own.production)
      ≡ row

get-unmap : {A B : Type 0} (f : A → B) (xs : List A) (k : ℕ) (y : B) → slice_get (map f xs) k ≡ Some y →
    (x : A) × (slice_get xs k ≡ Some x) × (f x ≡ y)
get-unmap f [] k y e = cc
get-unmap f (x ∷ xs) zero y e = (x, refl, same_Some (f x) y e)
get-unmap f (x ∷ xs) (suc k) y e = get-unmap f xs k y e

-- a slot of a layout has a production exactly where its nonterminal's slot is offered it
pub has-offered : (rules : Rules) (below level child n p : ℕ) (row : List ℕ) →
    HasProduction (slot_at rules below level child n) p row → IsProductionAt rules below child n p row
has-offered rules below level child n p row h =
    let ks = shared rules below n in
    let f = λ (q : Numbered). map (at_argument 0 ks (counted child ks)) (arguments q.production) in
    let found = get-unmap (λ (q : Numbered). q.number) (offered rules below n) h.place p h.has in
    let rowed = sym (get-map f (offered rules below n) h.place found.0 found.1) ∙ h.at in
    record {
      place = h.place;
      own = found.0;
      offers = found.1;
      numbered = found.2;
      rowed = same_Some (f found.0) row rowed;
    }

pub offered-has : (rules : Rules) (below level child n : ℕ) (k : ℕ) (q : Numbered) →
    slice_get (offered rules below n) k ≡ Some q →
    HasProduction (slot_at rules below level child n) q.number
    (map (at_argument 0 (shared rules below n) (counted child (shared rules below n))) (arguments q.production))
offered-has rules below level child n k q e =
    let ks = shared rules below n in
    record {
      place = k;
      has = get-map (λ (p : Numbered). p.number) (offered rules below n) k q e;
      at = get-map (λ (p : Numbered). map (at_argument 0 ks (counted child ks)) (arguments p.production))
          (offered rules below n) k q e;
    }
