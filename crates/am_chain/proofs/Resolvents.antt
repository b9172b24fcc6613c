-- The literals of a resolvent, and the pivots of clauses in order.
use Rattle.std.proofs.Common.{ℕ, ◌≡◌, ◌≢◌, ◌<◌, zero, suc, Bool, true, false, not, eqb, List, [], ◌∷◌, ◌++◌, All}
use Rattle.std.proofs.Common.{get_or, refl, sym, ap, ◌∙◌, inl, inr, arith}
use Rattle.std.specs.Prelude.{Contains, ◌⊎◌, ◌↔◌, Some}
use Rattle.std.specs.List.{AllPairs}
use Rattle.std.specs.List.Sorted.{IsStrictlyIncreasing}
use Rattle.std.proofs.lemmas.Bool.{eqb-false, eqb-true, eq-eqb, ne_eqb}
use Rattle.std.proofs.lemmas.List.Kept.{AllPairs-from_increasing}
use Rattle.std.proofs.lemmas.List.Elements.{All-head, All-tail, All-contains, All-filter, All-contains_itself}
use Rattle.std.proofs.lemmas.List.Elements.{filter_passes, Contains-append_left, Contains-append_right}
use Rattle.std.proofs.lemmas.List.Elements.{Contains-append_cases}
use Rattle.am_lit.specs.Literal.{variable_of, opposite_of}
use Rattle.am_lit.proofs.Laws.{Contains-nil, Contains-head, Contains-cons_cases, Contains-filter}
use Rattle.am_lit.proofs.Laws.{Contains-sorted_literals, other_literal, opposite_of-differs, opposite_of-opposite_of}
use Rattle.am_lit.proofs.Laws.{variable_of-opposite_of}
use Rattle.am_chain.specs.Resolvent.{of_variable, others, only, has_pivot, resolvent}
use Rattle.am_chain.specs.ChainLaws.{IsPivot}
use Rattle.am_chain.proofs.Sound.{opposite_both}

-- the literals of other variables
from_others : (v : ℕ) (c : List ℕ) (m : ℕ) → Contains (others v c) m → Contains c m × (variable_of m ≢ v)
from_others v c m h =
    let p = λ (x : ℕ). not (eqb (variable_of x) v) in (
      All-contains (Contains c) (others v c) m (All-filter p (Contains c) c (All-contains_itself c)) h,
      passes (eqb (variable_of m) v) (eqb-false (variable_of m) v)
          (All-contains (λ x. not (eqb (variable_of x) v) ≡ true) (others v c) m (filter_passes p c) h),
    ) where
      passes : (b : Bool) → (b ≡ false → variable_of m ≢ v) → not b ≡ true → variable_of m ≢ v
      passes true f e = let clash : false ≡ true = e in cc
      passes false f e = f refl

into_others : (v : ℕ) (c : List ℕ) (m : ℕ) → Contains c m → variable_of m ≢ v → Contains (others v c) m
into_others v c m h ne =
    Contains-filter (λ x. not (eqb (variable_of x) v)) c m h (rw (ne_eqb (variable_of m) v ne) refl)

-- a resolvent has exactly the literals of both clauses that aren't of the variable
pub from_resolvent : (v : ℕ) (c d : List ℕ) (m : ℕ) → Contains (resolvent v c d) m
    → (Contains c m ⊎ Contains d m) × (variable_of m ≢ v)
unfolding resolvent
from_resolvent v c d m h = elim (Contains-append_cases (others v c) (others v d) m
    ((Contains-sorted_literals (others v c ++ others v d) m).0 h)) [
      | inl k ↦ let f = from_others v c m k in (inl f.0, f.1)
      | inr k ↦ let f = from_others v d m k in (inr f.0, f.1)
    ]

-- a literal of either clause that isn't of the variable is in the resolvent
pub into_resolvent : (v : ℕ) (c d : List ℕ) (m : ℕ) → Contains c m ⊎ Contains d m → variable_of m ≢ v
    → Contains (resolvent v c d) m
unfolding resolvent
into_resolvent v c d m (inl h) ne =
    (Contains-sorted_literals (others v c ++ others v d) m).1
    (Contains-append_left (others v c) (others v d) m (into_others v c m h ne))
into_resolvent v c d m (inr h) ne =
    (Contains-sorted_literals (others v c ++ others v d) m).1
    (Contains-append_right (others v c) (others v d) m (into_others v d m h ne))

-- a literal of a variable
of_variable_parts : (v : ℕ) (c : List ℕ) (m : ℕ) → Contains (of_variable v c) m → Contains c m × (variable_of m ≡ v)
of_variable_parts v c m h =
    let p = λ (x : ℕ). eqb (variable_of x) v in (
      All-contains (Contains c) (of_variable v c) m (All-filter p (Contains c) c (All-contains_itself c)) h,
      eqb-true (variable_of m) v
          (All-contains (λ x. eqb (variable_of x) v ≡ true) (of_variable v c) m (filter_passes p c) h),
    )

into_of_variable : (v : ℕ) (c : List ℕ) (m : ℕ) → Contains c m → variable_of m ≡ v → Contains (of_variable v c) m
into_of_variable v c m h e = Contains-filter (λ x. eqb (variable_of x) v) c m h (eq-eqb (variable_of m) v e)

list_of_only : (s : List ℕ) (l : ℕ) → only s ≡ Some l → s ≡ l ∷ []
list_of_only [] l e = cc
list_of_only (x ∷ []) l e = let same : x ≡ l = cc in ap (λ y. y ∷ []) same
list_of_only (x ∷ y ∷ ys) l e = cc

-- a clause's only literal of a variable stands there without its opposite
only_parts : (v : ℕ) (c : List ℕ) (l : ℕ) → only (of_variable v c) ≡ Some l
    → (variable_of l ≡ v) × Contains c l × (¬ (Contains c (opposite_of l)))
only_parts v c l e =
    let one = list_of_only (of_variable v c) l e in
    let there = of_variable_parts v c l (rw one (Contains-head l [])) in (
      there.1,
      there.0,
      (λ h. elim (Contains-cons_cases l [] (opposite_of l)
          (rw one at (into_of_variable v c (opposite_of l) h (variable_of-opposite_of l ∙ there.1)))) [
            | inl same ↦ opposite_of-differs l (sym same)
            | inr none ↦ Contains-nil (opposite_of l) none
          ]),
    )

none_of_variable : (v : ℕ) (c : List ℕ) → All (λ x. variable_of x ≢ v) c → of_variable v c ≡ []
none_of_variable v [] h = refl
none_of_variable v (x ∷ xs) h =
    rw (ne_eqb (variable_of x) v (All-head (λ y. variable_of y ≢ v) x xs h))
    (none_of_variable v xs (All-tail (λ y. variable_of y ≢ v) x xs h))

-- no literal stands twice
abbrev IsApart : List ℕ → Type 0
IsApart [] = Unit {0}
IsApart (x ∷ xs) = All (λ y. x ≢ y) xs × IsApart xs

apart_pairs : (c : List ℕ) → AllPairs (λ x y. x < y) c → IsApart c
apart_pairs [] h = tt
apart_pairs (x ∷ xs) h = (
  (λ k d lt e. let less = h 0 (suc k) d (omega arith) (omega arith) in omega arith),
  apart_pairs xs (λ i j d lt within. h (suc i) (suc j) d (omega arith) (omega arith)),
)

unlike : (m : ℕ) (xs : List ℕ) → All (λ y. m ≢ y) xs → All (λ y. y ≢ opposite_of m) xs
    → All (λ y. variable_of y ≢ variable_of m) xs
unlike m xs p q = λ k d lt same. q k d lt (other_literal m (get_or xs k d) same (λ e. p k d lt (sym e)))

one_there : (m : ℕ) (c : List ℕ) → IsApart c → All (λ x. x ≢ opposite_of m) c → Contains c m
    → of_variable (variable_of m) c ≡ m ∷ []
one_there m [] row apart there = absurd (Contains-nil m there)
one_there m (x ∷ xs) row apart (zero, lt, e) =
    let rest = All-tail (λ y. y ≢ opposite_of m) x xs apart in
    let others_apart : All (λ y. m ≢ y) xs = rw e at row.0 in
    rw (e, eq-eqb (variable_of m) (variable_of m) refl)
    (ap (λ r. m ∷ r) (none_of_variable (variable_of m) xs (unlike m xs others_apart rest)))
one_there m (x ∷ xs) row apart (suc k, lt, e) =
    let there : Contains xs m = (k, omega arith, e) in
    let differs : x ≢ m = All-contains (λ y. x ≢ y) xs m row.0 there in
    let not_opposite : x ≢ opposite_of m = All-head (λ y. y ≢ opposite_of m) x xs apart in
    let other : variable_of x ≢ variable_of m = (λ same. not_opposite (other_literal m x same differs)) in
    rw (ne_eqb (variable_of x) (variable_of m) other)
    (one_there m xs row.1 (All-tail (λ y. y ≢ opposite_of m) x xs apart) there)

only_there : (v : ℕ) (c : List ℕ) (l : ℕ) → IsStrictlyIncreasing c → variable_of l ≡ v → Contains c l
    → ¬ (Contains c (opposite_of l))
    → only (of_variable v c) ≡ Some l
only_there v c l rising e there absent =
    let one : of_variable (variable_of l) c ≡ l ∷ [] = one_there l c (apart_pairs c (AllPairs-from_increasing c rising))
    (λ k d lt same. absent (rw same at (All-contains_itself c k d lt))) there in
    rw (← e, one) refl

-- clauses in order have a pivot exactly where a literal and its opposite stand alone in them
pub has_pivot_iff : (v : ℕ) (c d : List ℕ) → IsStrictlyIncreasing c → IsStrictlyIncreasing d
    → (has_pivot v c d ≡ true) ↔ ((l : ℕ) × (variable_of l ≡ v) × IsPivot l c d)
has_pivot_iff v c d rc rd = (
  (λ e.
      let both = opposite_both (only (of_variable v c)) (only (of_variable v d)) e in
      let l = both.0 in
      let first = only_parts v c l both.1 in
      let second = only_parts v d (opposite_of l) both.2 in (
        l,
        first.0,
        record {
          first = first.1;
          first_only = first.2;
          second = second.1;
          second_only = rw opposite_of-opposite_of at second.2;
        },
      )),
  (λ p.
      let l = p.0 in
      let first = only_there v c l rc p.1 p.2.first p.2.first_only in
      let second = only_there v d (opposite_of l) rd (variable_of-opposite_of l ∙ p.1) p.2.second
      (rw (opposite_of-opposite_of l) p.2.second_only) in
      rw (first, second) (eq-eqb (opposite_of l) (opposite_of l) refl)),
)
