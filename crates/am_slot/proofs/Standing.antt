-- What stands at the place of an argument.
use Rattle.std.proofs.Common.{◌≡◌, ℕ, zero, suc, ◌+◌, ◌-◌, ◌<◌, ◌≤◌, eqb, Bool, true, false, cond, ◌||◌, List, [], ◌∷◌}
use Rattle.std.proofs.Common.{Some, None, length, get_or, refl, sym, ap, arith, eq-eqb}
use Rattle.std.specs.List.{list_any}
use Rattle.std.proofs.lemmas.Bool.{eqb-true}
use Rattle.am_tree.proofs.Laws.{same-true}
use Rattle.am_tree.specs.declared.slots.Argument.{Argument}
use Rattle.am_tree.specs.Slots.{same, positioned, at_argument}
use Rattle.am_slot.specs.inside.Places.{place_from}

module _ {A : Type 0} (other : A) (a : Argument) where
  pub record Stands (i j : ℕ) (ks : List Argument) (xs : List A) : Type 0 where
    pub from : i ≤ j
    pub item : at_argument other ks xs a ≡ get_or xs (j - i) other

  -- an argument that has a place gets what stands there
  pub some-place : (i j : ℕ) (ks : List Argument) (xs : List A) → length xs ≡ length ks → place_from i ks a ≡ Some j →
      Stands i j ks xs
  some-place i j [] xs l e = cc
  some-place i j (k ∷ ks) [] l e = absurd (omega (arith, l))
  some-place i j (k ∷ ks) (x ∷ xs) l e = go (same a k) refl (some-place (i + 1) j ks xs (omega (arith, l)))
    where
      go : (b : Bool) → same a k ≡ b → (place_from (i + 1) ks a ≡ Some j → Stands (i + 1) j ks xs) →
          Stands i j (k ∷ ks) (x ∷ xs)
      go true t more =
          let here : i ≡ j = let f : Some i ≡ Some j = rw t at e in cc in
          let none : j - i ≡ 0 = omega (arith, here) in
          record { from = omega (arith, here); item = rw (t, none) refl }
      go false t more =
          let r = more (rw t at e) in
          let step : j - i ≡ suc (j - (i + 1)) = omega (arith, r.from) in
          record { from = omega (arith, r.from); item = rw (t, step) r.item }

  -- an argument that has no place gets the other
  pub no-place : (i : ℕ) (ks : List Argument) (xs : List A) → place_from i ks a ≡ None →
      at_argument other ks xs a ≡ other
  no-place i [] xs e = refl
  no-place i (k ∷ ks) [] e = refl
  no-place i (k ∷ ks) (x ∷ xs) e = go (same a k) refl (no-place (i + 1) ks xs)
    where
      go : (b : Bool) → same a k ≡ b → (place_from (i + 1) ks a ≡ None → at_argument other ks xs a ≡ other) →
          cond b x (at_argument other ks xs a) ≡ other
      go true t more = let f : Some i ≡ None = rw t at e in cc
      go false t more = more (rw t at e)

-- whether an argument is one of a production's

not-same : (a : Argument) (i n : ℕ) → (a.position ≡ i → ⊥) → same a (record { position = i; symbol = n }) ≡ false
not-same a i n h = go (same a (record { position = i; symbol = n })) refl
  where
    go : (t : Bool) → same a (record { position = i; symbol = n }) ≡ t →
        same a (record { position = i; symbol = n }) ≡ false
    go true e = absurd (h (ap (λ (c : Argument). c.position) (same-true a (record { position = i; symbol = n }) e)))
    go false e = e

swapped : (m n : ℕ) → eqb m n ≡ (eqb n m || false)
swapped m n = go (eqb n m) (eqb m n) refl refl
  where
    go : (s t : Bool) → eqb n m ≡ s → eqb m n ≡ t → t ≡ (s || false)
    go true true e f = refl
    go false false e f = refl
    go true false e f = let same : eqb m n ≡ true = eq-eqb m n (sym (eqb-true n m e)) in cc
    go false true e f = let same : eqb n m ≡ true = eq-eqb n m (sym (eqb-true m n f)) in cc

no-name : (a : Argument) (i : ℕ) (names : List ℕ) → a.position < i → list_any (same a) (positioned i names) ≡ false
no-name a i [] l = refl
no-name a i (n ∷ names) l =
    rw (not-same a i n (λ e. omega (arith, e, l)), no-name a (i + 1) names (omega (arith, l))) refl

-- the argument of one position is compared with the nonterminal there alone
pub some-name : (a : Argument) (i k : ℕ) (names : List ℕ) (n : ℕ) → a.position ≡ i + k → k < length names →
    n ≡ get_or names k n →
    eqb n a.symbol ≡ list_any (same a) (positioned i names)
some-name a i k [] n e l s = absurd (omega (arith, l))
some-name a i zero (m ∷ names) n e l s =
    let here : a.position ≡ i = omega (arith, e) in
    rw (no-name a (i + 1) names (omega (arith, here)), eq-eqb a.position i here, s) (swapped m a.symbol)
some-name a i (suc k) (m ∷ names) n e l s =
    let apart : same a (record { position = i; symbol = m }) ≡ false = not-same a i m (λ f. omega (arith, e, f)) in
    rw apart (some-name a (i + 1) k names n (omega (arith, e)) (omega (arith, l)) s)

-- an argument past the last nonterminal is none of them
pub past-names : (a : Argument) (i k : ℕ) (names : List ℕ) → a.position ≡ i + k → length names ≤ k →
    false ≡ list_any (same a) (positioned i names)
past-names a i k [] e l = refl
past-names a i zero (m ∷ names) e l = absurd (omega (arith, l))
past-names a i (suc k) (m ∷ names) e l =
    let apart : same a (record { position = i; symbol = m }) ≡ false = not-same a i m (λ f. omega (arith, e, f)) in
    rw apart (past-names a (i + 1) k names (omega (arith, e)) (omega (arith, l)))
