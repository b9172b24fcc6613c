-- Rows of as many items each, and the parts of them that belong to one slot.
use Rattle.std.proofs.Common.{◌≡◌, Bool, true, false, cond, List, [], ◌∷◌, ◌++◌, map, take, drop, length, refl, sym}
use Rattle.std.proofs.Common.{subst}
use Rattle.am_tree.specs.declared.slots.Argument.{Argument}
use Rattle.am_tree.specs.Slots.{same, at_argument}
use Rattle.am_tree.proofs.Laws.{Stands, same-true}

-- R holds of the items of three lists, place by place
abbrev pub AllThree : {A B C : Type 0} → (A → B → C → Type 0) → List A → List B → List C → Type 0
AllThree R [] [] [] = Unit {0}
AllThree R [] [] (z ∷ zs) = ⊥
AllThree R [] (y ∷ ys) zs = ⊥
AllThree R (x ∷ xs) [] zs = ⊥
AllThree R (x ∷ xs) (y ∷ ys) [] = ⊥
AllThree R (x ∷ xs) (y ∷ ys) (z ∷ zs) = R x y z × AllThree R xs ys zs

module _ {A B C : Type 0} (R : A → B → C → Type 0) (f : Argument → A) where
  -- the part at the first arguments, and the rest
  pub front : (ks : List Argument) (xs : List A) (ys : List B) (zs : List C) →
      AllThree R (map f ks ++ xs) ys zs → AllThree R (map f ks) (take (length ks) ys) (take (length ks) zs)
  front [] xs ys zs h = tt
  front (k ∷ ks) xs [] zs h = absurd h
  front (k ∷ ks) xs (y ∷ ys) [] h = absurd h
  front (k ∷ ks) xs (y ∷ ys) (z ∷ zs) h = (h.0, front ks xs ys zs h.1)

  -- and the rest
  pub behind : (ks : List Argument) (xs : List A) (ys : List B) (zs : List C) →
      AllThree R (map f ks ++ xs) ys zs → AllThree R xs (drop (length ks) ys) (drop (length ks) zs)
  behind [] xs ys zs h = h
  behind (k ∷ ks) xs [] zs h = absurd h
  behind (k ∷ ks) xs (y ∷ ys) [] h = absurd h
  behind (k ∷ ks) xs (y ∷ ys) (z ∷ zs) h = behind ks xs ys zs h.1

  -- what stands at an argument of the list
  pub found : (other : B) (another : C) (ks : List Argument) (ys : List B) (zs : List C) (a : Argument) →
      AllThree R (map f ks) ys zs → Stands ks a → R (f a) (at_argument other ks ys a) (at_argument another ks zs a)
  found other another [] ys zs a h s = cc
  found other another (k ∷ ks) [] zs a h s = absurd h
  found other another (k ∷ ks) (y ∷ ys) [] a h s = absurd h
  found other another (k ∷ ks) (y ∷ ys) (z ∷ zs) a h s = go (same a k) refl (found other another ks ys zs a h.1)
    where
      go : (b : Bool) → same a k ≡ b →
          (Stands ks a → R (f a) (at_argument other ks ys a) (at_argument another ks zs a)) →
          R (f a) (cond b y (at_argument other ks ys a)) (cond b z (at_argument another ks zs a))
      go true e more = subst (λ (x : Argument). R (f x) y z) (sym (same-true a k e)) h.0
      go false e more = more (rw e at s)
