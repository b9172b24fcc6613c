-- Rows that are sorted by code and freed of repeats.
use Rattle.std.proofs.Common.{ℕ, ◌≡◌, ◌+◌, ◌<◌, ◌≢◌, Bool, true, false, eqb, List, [], ◌∷◌, length, refl, sym, ap, ◌∙◌}
use Rattle.std.proofs.Common.{subst, inl, inr, arith, get_or}
use Rattle.std.specs.Prelude.{Contains, ◌↔◌}
use Rattle.std.specs.List.{AllPairs, dedup, list_any}
use Rattle.std.specs.List.Sorted.{IsStrictlyIncreasing, IsSorted, IsPermutation}
use Rattle.std.specs.Ordering.{nat_cmp}
use Rattle.std.proofs.lemmas.Bool.{eqb-true, eq-eqb, cases_eq, cases_lt}
use Rattle.std.proofs.lemmas.List.Elements.{All-contains}
use Rattle.std.proofs.lemmas.List.{get_or_default}
use Rattle.std.proofs.lemmas.List.Folds.{Any-from_list_any, list_any-from_Any}
use Rattle.std.proofs.lemmas.List.Kept.{AllPairs-from_increasing, Contains-dedup_nat, Contains-from_dedup}
use Rattle.std.proofs.lemmas.List.Sorted.{Contains-permutation, IsPermutation-sym}
use Rattle.std.proofs.lemmas.Map.Keys.{IsStrictlyIncreasing-dedup}
use Rattle.am_lit.specs.Clause.{sorted_literals}
use Rattle.am_lit.specs.Literal.{opposite_of, variable_of}
use Rattle.am_lit.proofs.Laws.{Contains-head, Contains-tail, Contains-nil, Contains-cons_cases, AllPairs-head}
use Rattle.am_lit.proofs.Laws.{AllPairs-tail, Contains-sorted_literals, IsStrictlyIncreasing-sorted_literals}
use Rattle.am_gate.specs.Circuit.{added, is_tautology}
use Rattle.am_lit.proofs.Laws.{opposite_parts, variable_of-opposite_of}

-- each code is below those after it
abbrev pub Rises : List ℕ → Type 0
Rises xs = AllPairs (λ x y. x < y) xs

later : (x y : ℕ) (xs : List ℕ) → Rises (x ∷ xs) → Contains xs y → x < y
later x y xs r h = All-contains (λ z. x < z) xs y (AllPairs-head (λ a b. a < b) x xs r) h

-- lists that rise and have the same numbers are the same
pub same_rising : (xs ys : List ℕ) → Rises xs → Rises ys → ((z : ℕ) → Contains xs z ↔ Contains ys z) → xs ≡ ys
same_rising [] [] p q h = refl
same_rising [] (y ∷ ys) p q h = absurd (Contains-nil y ((h y).1 (Contains-head y ys)))
same_rising (x ∷ xs) [] p q h = absurd (Contains-nil x ((h x).0 (Contains-head x xs)))
same_rising (x ∷ xs) (y ∷ ys) p q h =
    rw (first, same_rising xs ys (AllPairs-tail (λ a b. a < b) x xs p) (AllPairs-tail (λ a b. a < b) y ys q) rest) refl
  where
    first : x ≡ y
    first = elim (Contains-cons_cases y ys x ((h x).0 (Contains-head x xs))) [
      | inl e ↦ sym e
      | inr t ↦ elim (Contains-cons_cases x xs y ((h y).1 (Contains-head y ys))) [
        | inl e ↦ e
        | inr u ↦ (let one = later y x ys q t in let two = later x y xs p u in omega arith)
      ]
    ]

    rest : (z : ℕ) → Contains xs z ↔ Contains ys z
    rest z = (
      (λ t. elim (Contains-cons_cases y ys z ((h z).0 (Contains-tail x xs z t))) [
        | inl e ↦ (let more = later x z xs p t in let same = first in absurd (omega arith))
        | inr u ↦ u
      ]),
      (λ t. elim (Contains-cons_cases x xs z ((h z).1 (Contains-tail y ys z t))) [
        | inl e ↦ (let more = later y z ys q t in let same = first in absurd (omega arith))
        | inr u ↦ u
      ]),
    )

-- a sort and a removal of repeats give the literals in order
pub sorted_by_sort : (literals xs ys : List ℕ) → IsPermutation literals xs → IsSorted nat_cmp xs → ys ≡ dedup eqb xs
    → ys ≡ sorted_literals literals
sorted_by_sort literals xs ys p s e =
    e ∙ same_rising (dedup eqb xs) (sorted_literals literals)
    (AllPairs-from_increasing (dedup eqb xs) (IsStrictlyIncreasing-dedup xs s))
    (AllPairs-from_increasing (sorted_literals literals) (IsStrictlyIncreasing-sorted_literals literals))
    (λ z. (
      (λ h. (Contains-sorted_literals literals z).1
          (Contains-permutation xs literals z (IsPermutation-sym literals xs p) (Contains-from_dedup eqb xs z h))),
      (λ h. Contains-dedup_nat xs z (Contains-permutation literals xs z p ((Contains-sorted_literals literals z).0 h))),
    ))

-- a list has a literal where a test by equality finds it
contains_from : (c : List ℕ) (l : ℕ) → list_any (eqb l) c ≡ true → Contains c l
contains_from c l t =
    let some = Any-from_list_any (eqb l) c t in
    subst (Contains c) (sym (eqb-true l some.1 some.4)) (some.0, some.2, some.3)

contains_to : (c : List ℕ) (l : ℕ) → Contains c l → list_any (eqb l) c ≡ true
contains_to c l h = list_any-from_Any (eqb l) c (h.0, l, h.1, h.2, eq-eqb l l refl)

-- a clause that holds a literal and its opposite is a tautology
pub tautology_from : (c : List ℕ) (l : ℕ) → Contains c l → Contains c (opposite_of l) → is_tautology c ≡ true
unfolding is_tautology
tautology_from c l h k =
    list_any-from_Any (λ m. list_any (eqb (opposite_of m)) c) c (h.0, l, h.1, h.2, contains_to c (opposite_of l) k)

-- a tautology holds a literal and its opposite
pub tautology_parts : (c : List ℕ) → is_tautology c ≡ true → (l : ℕ) × Contains c l × Contains c (opposite_of l)
unfolding is_tautology
tautology_parts c t =
    let some = Any-from_list_any (λ m. list_any (eqb (opposite_of m)) c) c t in
    (some.1, (some.0, some.2, some.3), contains_from c (opposite_of some.1) some.4)

module _ (c : List ℕ) (rises : IsStrictlyIncreasing c) where
  above : (i j : ℕ) → i < j → j < length c → get_or c i 0 < get_or c j 0
  above i j lt within = AllPairs-from_increasing c rises i j 0 lt within

  -- literals next to one another of one variable
  pub tautology_at : (k i x y : ℕ) → i ≡ k + 1 → i < length c → x ≡ get_or c k x → y ≡ get_or c i y
      → variable_of x ≡ variable_of y
      → is_tautology c ≡ true
  tautology_at k i x y next lt at_x at_y same =
      let up : get_or c k x < get_or c i x = AllPairs-from_increasing c rises k i x (omega arith) lt in
      let other : get_or c i x ≡ get_or c i y = get_or_default c i x y lt in
      let opposite : opposite_of x ≡ y = elim (opposite_parts x)
      [ inl p ↦ omega (arith, p.0, p.1) | inr p ↦ omega (arith, p.0, p.1) ] in
      tautology_from c x (k, omega arith, sym at_x) (i, lt, rw opposite (sym at_y))

  -- two literals of one variable stand next to one another
  adjacent : (i j : ℕ) → i < j → j < length c → variable_of (get_or c i 0) ≡ variable_of (get_or c j 0) → j ≡ i + 1
  adjacent i j lt within same = elim (cases_eq j (i + 1)) [
    | inl e ↦ e
    | inr ne ↦ (
        let one = above i (i + 1) (omega arith) (omega arith) in
        let two = above (i + 1) j (omega arith) within in
        omega arith)
  ]

  -- where literals next to one another have different variables, no variable stands twice
  pub no_tautology : ((k : ℕ) → k + 1 < length c → variable_of (get_or c k 0) ≢ variable_of (get_or c (k + 1) 0))
      → is_tautology c ≡ false
  no_tautology apart = go (is_tautology c) refl where
    clash : (i j : ℕ) → i < j → j < length c → variable_of (get_or c i 0) ≡ variable_of (get_or c j 0) → ⊥
    clash i j lt within same =
        let next = adjacent i j lt within same in
        apart i (omega arith) (same ∙ ap (λ k. variable_of (get_or c k 0)) next)

    both : (l : ℕ) → Contains c l → Contains c (opposite_of l) → ⊥
    both l h k =
        let one : get_or c h.0 0 ≡ l = get_or_default c h.0 0 l h.1 ∙ h.2 in
        let two : get_or c k.0 0 ≡ opposite_of l = get_or_default c k.0 0 (opposite_of l) k.1 ∙ k.2 in
        let half = variable_of-opposite_of l in
        let same : variable_of (get_or c h.0 0) ≡ variable_of (get_or c k.0 0) = rw (one, two) (sym half) in
        elim (cases_lt h.0 k.0) [
          | inl lt ↦ clash h.0 k.0 lt k.1 same
          | inr ge ↦ elim (cases_eq h.0 k.0) [
            | inl e ↦ elim (opposite_parts l) [
              | inl p ↦ (let eq : l ≡ opposite_of l = sym one ∙ ap (λ i. get_or c i 0) e ∙ two in omega (arith, p.1))
              | inr p ↦ (let eq : l ≡ opposite_of l = sym one ∙ ap (λ i. get_or c i 0) e ∙ two in omega (arith, p.1))
            ]
            | inr ne ↦ clash k.0 h.0 (omega arith) h.1 (sym same)
          ]
        ]

    go : (b : Bool) → is_tautology c ≡ b → is_tautology c ≡ false
    go false e = e
    go true e = let pair = tautology_parts c e in absurd (both pair.0 pair.1 pair.2)

-- a clause that is no tautology is added in order
pub added_kept : (c : List ℕ) → is_tautology (sorted_literals c) ≡ false → added c ≡ sorted_literals c ∷ []
unfolding added
added_kept c e = rw e refl

-- a tautology isn't added
pub added_dropped : (c : List ℕ) → is_tautology (sorted_literals c) ≡ true → added c ≡ []
unfolding added
added_dropped c e = rw e refl
