-- Clauses whose literals need no sorting, or stand in another order.
use Rattle.std.proofs.Common.{ℕ, ◌≡◌, ◌+◌, ◌<◌, ◌≤◌, Bool, true, false, List, [], ◌∷◌, ◌++◌, length, map, refl, sym, ap}
use Rattle.std.proofs.Common.{◌∙◌, inl, inr, arith, get_or}
use Rattle.std.specs.List.{flat_map}
use Rattle.std.specs.List.Sorted.{IsStrictlyIncreasing, IsPermutation}
use Rattle.std.proofs.lemmas.Bool.{cases_eq}
use Rattle.std.proofs.lemmas.List.{get_or-map, get_or_default, length-map}
use Rattle.std.proofs.lemmas.List.Kept.{AllPairs-from_increasing}
use Rattle.std.proofs.lemmas.List.Sorted.{Contains-permutation, IsPermutation-append_comm, IsPermutation-append_left}
use Rattle.std.proofs.lemmas.List.Sorted.{IsPermutation-sym, IsPermutation-to_front}
use Rattle.am_lit.specs.Clause.{sorted_literals}
use Rattle.am_lit.specs.Literal.{opposite_of, variable_of}
use Rattle.am_lit.proofs.Laws.{Contains-sorted_literals, IsStrictlyIncreasing-sorted_literals}
use Rattle.am_gate.specs.Circuit.{Event.And, Event.Xor, added, clauses_of, is_tautology}
use Rattle.am_gate.proofs.Sorting.{added_dropped, added_kept, no_tautology, same_rising, tautology_at}

-- literals in another order are added alike
pub added-permutation : (c d : List ℕ) → IsPermutation c d → added c ≡ added d
unfolding added
added-permutation c d p = rw same refl where
  same : sorted_literals c ≡ sorted_literals d
  same = same_rising (sorted_literals c) (sorted_literals d)
      (AllPairs-from_increasing (sorted_literals c) (IsStrictlyIncreasing-sorted_literals c))
      (AllPairs-from_increasing (sorted_literals d) (IsStrictlyIncreasing-sorted_literals d))
      (λ z. (
        (λ h. (Contains-sorted_literals d z).1 (Contains-permutation c d z p ((Contains-sorted_literals c z).0 h))),
        (λ h. (Contains-sorted_literals c z).1
            (Contains-permutation d c z (IsPermutation-sym c d p) ((Contains-sorted_literals d z).0 h))),
      ))

-- the order of two literals of a row doesn't matter
pub added_swapped : (x y g : ℕ) → added (y ∷ x ∷ g ∷ []) ≡ added (x ∷ y ∷ g ∷ [])
added_swapped x y g =
    added-permutation (y ∷ x ∷ g ∷ []) (x ∷ y ∷ g ∷ [])
    (IsPermutation-append_left (g ∷ []) (y ∷ x ∷ []) (x ∷ y ∷ []) (IsPermutation-append_comm (y ∷ []) (x ∷ [])))

pub added_from_front : (g : ℕ) (c : List ℕ) → added (c ++ g ∷ []) ≡ added (g ∷ c)
added_from_front g c = added-permutation (c ++ g ∷ []) (g ∷ c) (IsPermutation-to_front c g)

-- the clauses of gates with the gate's literal at their ends

-- the rows of a conjunction
pub rows_of-and : (g a b : ℕ) →
    flat_map added ((a ∷ opposite_of g ∷ []) ∷ (b ∷ opposite_of g ∷ []) ∷ (opposite_of a ∷ opposite_of b ∷ g ∷ []) ∷ [])
    ≡ flat_map added (clauses_of g (And a b))
rows_of-and g a b =
    rw (
      added_from_front (opposite_of g) (a ∷ []),
      added_from_front (opposite_of g) (b ∷ []),
      added_from_front g (opposite_of a ∷ opposite_of b ∷ []),
    )
    refl

-- the rows of an exclusive or
pub rows_of-xor : (g a b : ℕ) →
    flat_map added
    ((a ∷ b ∷ opposite_of g ∷ []) ∷ (opposite_of a ∷ opposite_of b ∷ opposite_of g ∷ [])
    ∷ (opposite_of a ∷ b ∷ g ∷ []) ∷ (a ∷ opposite_of b ∷ g ∷ []) ∷ [])
    ≡ flat_map added (clauses_of g (Xor a b))
rows_of-xor g a b =
    rw (
      added_from_front (opposite_of g) (a ∷ b ∷ []),
      added_from_front (opposite_of g) (opposite_of a ∷ opposite_of b ∷ []),
      added_from_front g (opposite_of a ∷ b ∷ []),
      added_from_front g (a ∷ opposite_of b ∷ []),
    ) refl

-- the variables rise where each is above the one before it
pub rise_from : (c : List ℕ) →
    ((k : ℕ) → k + 1 < length c → variable_of (get_or c k 0) < variable_of (get_or c (k + 1) 0)) →
    IsStrictlyIncreasing (map variable_of c)
rise_from c h = λ k lt.
    let within : k + 1 < length c = rw length-map at lt in
    rw (get_or-map variable_of c k 0 0 (omega arith), get_or-map variable_of c (k + 1) 0 0 within) (h k within)

pub rise_at : (c : List ℕ) → IsStrictlyIncreasing (map variable_of c) → (k : ℕ) → k + 1 < length c →
    variable_of (get_or c k 0) < variable_of (get_or c (k + 1) 0)
rise_at c rise k lt =
    let up = rise k (rw length-map lt) in
    rw (get_or-map variable_of c k 0 0 (omega arith), get_or-map variable_of c (k + 1) 0 0 lt) at up

-- a literal whose variable isn't above the one before it
pub no_rise_at : (c : List ℕ) (k i x y : ℕ) → i ≡ k + 1 → i < length c → x ≡ get_or c k x → y ≡ get_or c i y →
    variable_of y ≤ variable_of x →
    ¬ (IsStrictlyIncreasing (map variable_of c))
no_rise_at c k i x y next lt at_x at_y le rise =
    let up = rise_at c rise k (omega arith) in
    let one : x ≡ get_or c k 0 = at_x ∙ get_or_default c k x 0 (omega arith) in
    let two : y ≡ get_or c (k + 1) 0 = at_y ∙ get_or_default c i y 0 lt ∙ ap (λ n. get_or c n 0) next in
    omega arith

module _ (c : List ℕ) where
  no_tautology_rises : IsStrictlyIncreasing c → IsStrictlyIncreasing (map variable_of c) → is_tautology c ≡ false
  no_tautology_rises rising rise = no_tautology c rising (λ k lt e. let up = rise_at c rise k lt in omega arith)

  -- literals whose variables rise are added as they stand
  pub added_as_they_stand : IsStrictlyIncreasing (map variable_of c) → added c ≡ c ∷ []
  added_as_they_stand rise =
      added_kept c (ap is_tautology sorted ∙ no_tautology_rises risen rise) ∙ ap (λ d. d ∷ []) sorted where
        risen : IsStrictlyIncreasing c
        risen = λ k lt. let up = rise_at c rise k lt in omega arith

        sorted : sorted_literals c ≡ c
        sorted = same_rising (sorted_literals c) c
            (AllPairs-from_increasing (sorted_literals c) (IsStrictlyIncreasing-sorted_literals c))
            (AllPairs-from_increasing c risen) (Contains-sorted_literals c)

  -- sorted literals are added where their variables rise, and are a tautology elsewhere

  -- a row over different variables is added in order
  pub added_sorted : IsStrictlyIncreasing (map variable_of (sorted_literals c)) → added c ≡ sorted_literals c ∷ []
  added_sorted rise =
      added_kept c
      (no_tautology (sorted_literals c) (IsStrictlyIncreasing-sorted_literals c)
      (λ k lt e. let up = rise_at (sorted_literals c) rise k lt in omega arith))

  -- a row that holds a variable twice isn't added
  pub added_nothing : ¬ (IsStrictlyIncreasing (map variable_of (sorted_literals c))) → added c ≡ []
  added_nothing falls = added_dropped c (go (is_tautology (sorted_literals c)) refl) where
    rising : IsStrictlyIncreasing (sorted_literals c)
    rising = IsStrictlyIncreasing-sorted_literals c

    go : (b : Bool) → is_tautology (sorted_literals c) ≡ b → b ≡ true
    go true e = refl
    go false e = absurd (falls (rise_from (sorted_literals c) above)) where
      above : (k : ℕ) → k + 1 < length (sorted_literals c) →
          variable_of (get_or (sorted_literals c) k 0) < variable_of (get_or (sorted_literals c) (k + 1) 0)
      above k lt =
          let x = get_or (sorted_literals c) k 0 in
          let y = get_or (sorted_literals c) (k + 1) 0 in
          let up : x < y = rising k lt in
          elim (cases_eq (variable_of x) (variable_of y)) [
            | inl same ↦
                absurd
                (let clash : true ≡ false =
                sym
                (tautology_at (sorted_literals c) rising k (k + 1) x y refl lt
                (get_or_default (sorted_literals c) k 0 x (omega arith))
                (get_or_default (sorted_literals c) (k + 1) 0 y lt) same)
                ∙ e in
                cc clash)
            | inr ne ↦ omega arith
          ]
