-- The number of the production that truth values pick.
use Rattle.std.proofs.Common.{◌≡◌, ℕ, zero, suc, ◌+◌, ◌<◌, Bool, true, false, cond, List, [], ◌∷◌, Option, None, Some}
use Rattle.std.proofs.Common.{length, get_or, refl, ◌∙◌, ap, arith}
use Rattle.std.specs.Prelude.{option_map, slice_get, if◌then◌else◌}
use Rattle.std.specs.List.{AllByRecursion}
use Rattle.am_tree.specs.Trees.{Rules}
use Rattle.am_tree.specs.Slots.{Numbered, offered}
use Rattle.am_tree.proofs.Laws.{IsOffered, are_offered}
use Rattle.am_slot.specs.Decoded.{picked}

-- the number of the last production whose selector is true, where x is the first one's selector
abbrev pub number_of : (ℕ → Bool) → ℕ → Option ℕ → List Numbered → Option ℕ
number_of v x last [] = last
number_of v x last (p ∷ ps) = number_of v (x + 1) (if v x then Some p.number else last) ps

-- the number of the picked production is the picked number
pub number_of-picked : (v : ℕ → Bool) (x : ℕ) (last : Option Numbered) (ps : List Numbered) →
    option_map (λ p. p.number) (picked v x last ps) ≡ number_of v x (option_map (λ p. p.number) last) ps
number_of-picked v x last [] = refl
number_of-picked v x last (p ∷ ps) =
    number_of-picked v (x + 1) (cond (v x) (Some p) last) ps
    ∙ ap (λ (o : Option ℕ). number_of v (x + 1) o ps) (go (v x))
  where
    go : (b : Bool) →
        option_map (λ (q : Numbered). q.number) (cond b (Some p) last)
        ≡ cond b (Some p.number) (option_map (λ (q : Numbered). q.number) last)
    go true = refl
    go false = refl

-- what is picked is one of the productions

abbrev Is : (Numbered → Type 0) → Option Numbered → Type 0
Is P None = Unit {0}
Is P (Some p) = P p

picked_is : (P : Numbered → Type 0) (v : ℕ → Bool) (x : ℕ) (last : Option Numbered) (ps : List Numbered) → Is P last →
    AllByRecursion P ps →
    Is P (picked v x last ps)
picked_is P v x last [] l h = l
picked_is P v x last (p ∷ ps) l h = picked_is P v (x + 1) (cond (v x) (Some p) last) ps (go (v x)) h.1
  where
    go : (b : Bool) → Is P (cond b (Some p) last)
    go true = h.0
    go false = l

-- a production that is picked, with its number
pub record Picked (rules : Rules) (below n number : ℕ) (o : Option Numbered) : Type 0 where
  pub production : Numbered
  pub is : o ≡ Some production
  pub numbered : production.number ≡ number
  pub offered : IsOffered rules below n production

-- a number that is picked is that of a production of the slot
pub picked-some : (rules : Rules) (below n x number : ℕ) (v : ℕ → Bool) →
    option_map (λ p. p.number) (picked v x None (offered rules below n)) ≡ Some number →
    Picked rules below n number (picked v x None (offered rules below n))
picked-some rules below n x number v h =
    go (picked v x None (offered rules below n)) h
    (picked_is (IsOffered rules below n) v x None (offered rules below n) tt (are_offered rules n below))
  where
    go : (o : Option Numbered) → option_map (λ (p : Numbered). p.number) o ≡ Some number →
        Is (IsOffered rules below n) o →
        Picked rules below n number o
    go None e i = cc
    go (Some p) e i = record { production = p; is = refl; numbered = cc; offered = i }

pub picked-none : (rules : Rules) (below n x : ℕ) (v : ℕ → Bool) →
    option_map (λ p. p.number) (picked v x None (offered rules below n)) ≡ None →
    picked v x None (offered rules below n) ≡ None
picked-none rules below n x v h = go (picked v x None (offered rules below n)) h
  where
    go : (o : Option Numbered) → option_map (λ (p : Numbered). p.number) o ≡ None → o ≡ None
    go None e = refl
    go (Some p) e = cc

-- an item that stands at a place
pub inside-get : {A : Type 0} (xs : List A) (i : ℕ) (x : A) → slice_get xs i ≡ Some x → i < length xs
inside-get [] i x h = cc
inside-get (y ∷ ys) zero x h = omega arith
inside-get (y ∷ ys) (suc i) x h = omega (arith, inside-get ys i x h)

-- the item that stands at a place is what is read there
pub item-get : {A : Type 0} (xs : List A) (i : ℕ) (x d : A) → slice_get xs i ≡ Some x → get_or xs i d ≡ x
item-get [] i x d h = cc
item-get (y ∷ ys) zero x d h = cc
item-get (y ∷ ys) (suc i) x d h = item-get ys i x d h
