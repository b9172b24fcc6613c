-- Propagation from the last step of a chain back to its first clause.
use Rattle.std.proofs.Common.{ℕ, ◌≡◌, ◌≢◌, ◌<◌, Bool, true, false, cond, not, List, [], ◌∷◌, ◌++◌, All, get_or, map}
use Rattle.std.proofs.Common.{refl, sym, ◌∙◌, inl, inr, arith}
use Rattle.std.specs.Prelude.{Contains, ◌⊎◌}
use Rattle.std.specs.List.{AllPairs}
use Rattle.std.specs.List.Sorted.{IsStrictlyIncreasing}
use Rattle.std.proofs.lemmas.List.Elements.{All-contains, All-contains_itself, All-head, All-tail, Contains-append_left}
use Rattle.std.proofs.lemmas.List.Kept.{AllPairs-from_increasing}
use Rattle.am_lit.specs.Literal.{opposite_of, variable_of}
use Rattle.am_lit.specs.SearchLaws.{IsFalseIn}
use Rattle.am_lit.specs.UnitRow.{IsForcedBy}
use Rattle.am_lit.proofs.Laws.{AllPairs-head, AllPairs-tail, Contains-map, opposite_of-opposite_of, other_literal}
use Rattle.am_lit.proofs.Laws.{same_or, variable_of-opposite_of}
use Rattle.am_chain.specs.ChainLaws.{IsPivot}
use Rattle.am_chain.specs.Resolvent.{resolvent}
use Rattle.am_chain.proofs.Laws.{into_resolvent}
use Rattle.am_hint.specs.declared.status.Status.{Status}
use Rattle.am_hint.specs.declared.status.Status.TheVariants.{Conflict, Forces, Open}
use Rattle.am_hint.specs.Hints.{is_hinted_in, not_false, status_of}
use Rattle.am_hint.proofs.Truths.{Contains-is_in, is_in-Contains}

-- a literal of a clause without the opposite of a literal, other than that literal, is of another variable
of_another : (c : List ℕ) (a m : ℕ) → ¬ (Contains c (opposite_of a)) → Contains c m → m ≢ a
    → variable_of m ≢ variable_of a
of_another c a m absent there ne same = absent (rw (other_literal a m same ne) at there)

-- a false resolvent, and the literal that its clauses were resolved on
module _ (row : List ℕ) (v l : ℕ) (c d : List ℕ) (of_l : variable_of l ≡ v) (pivot : IsPivot l c d)
    (is_false : IsFalseIn row (resolvent v c d)) where
  resolved : (m : ℕ) → Contains c m ⊎ Contains d m → variable_of m ≢ v → Contains row (opposite_of m)
  resolved m h ne =
      All-contains (λ n. Contains row (opposite_of n)) (resolvent v c d) m is_false (into_resolvent v c d m h ne)

  -- the literals of the second clause but the opposite of that one are false
  pub forced_back : IsForcedBy row d (opposite_of l)
  forced_back =
      let q = opposite_of l in
      let of_q : variable_of q ≡ v = variable_of-opposite_of l ∙ of_l in
      let absent : ¬ (Contains d (opposite_of q)) = rw (opposite_of-opposite_of l) pivot.second_only in (
        pivot.second,
        (λ k e lt ne.
            let there : Contains d (get_or d k e) = All-contains_itself d k e lt in
            resolved (get_or d k e) (inr there)
            (λ same. of_another d q (get_or d k e) absent there ne (same ∙ sym of_q))),
      )

  -- where that opposite is true, the first clause is false
  pub false_back : Contains row (opposite_of l) → IsFalseIn row c
  false_back is_true = λ k e lt.
      let there : Contains c (get_or c k e) = All-contains_itself c k e lt in
      elim (same_or (get_or c k e) l) [
        | inl same ↦ rw same is_true
        | inr ne ↦
            resolved (get_or c k e) (inl there)
            (λ same. of_another c l (get_or c k e) pivot.first_only there ne (same ∙ sym of_l))
      ]

-- of false literals none is left
none_left : (row c : List ℕ) → All (λ m. Contains row (opposite_of m)) c → not_false row c ≡ []
none_left row [] h = refl
none_left row (m ∷ c) h =
    let opposite = λ (n : ℕ). Contains row (opposite_of n) in
    rw (is_in-Contains row (opposite_of m) (All-head opposite m c h)) (none_left row c (All-tail opposite m c h))

-- where all literals but one are false, no other one is left
left_alone : (row c : List ℕ) (q : ℕ) → AllPairs (λ x y. x < y) c → All (λ m. m ≢ q → Contains row (opposite_of m)) c
    → (not_false row c ≡ []) ⊎ (not_false row c ≡ q ∷ [])
left_alone row [] q rising h = inl refl
left_alone row (m ∷ c) q rising h = elim (same_or m q) [
  | inl e ↦ go e (is_hinted_in row (opposite_of m))
  | inr ne ↦
      rw (is_in-Contains row (opposite_of m) (All-head opposite m c h ne))
      (left_alone row c q (AllPairs-tail (λ x y. x < y) m c rising) (All-tail opposite m c h))
] where
  opposite : ℕ → Type 0
  opposite n = n ≢ q → Contains row (opposite_of n)

  rest_false : m ≡ q → not_false row c ≡ []
  rest_false e = none_left row c (λ k d lt.
      let less : m < get_or c k d = AllPairs-head (λ x y. x < y) m c rising k d lt in
      All-tail opposite m c h k d lt (λ same. omega arith))

  go : m ≡ q → (b : Bool)
      → (cond (not b) (m ∷ not_false row c) (not_false row c) ≡ [])
      ⊎ (cond (not b) (m ∷ not_false row c) (not_false row c) ≡ q ∷ [])
  go e true = inl (rest_false e)
  go e false = inr (rw (rest_false e, e) refl)

-- a clause with one literal that may not be false is a conflict, or forces the literal, or that literal is true
pub data IsForcedStatus (row : List ℕ) (q : ℕ) : Status → Type 0 where
  conflict : IsForcedStatus row q Conflict
  forces : IsForcedStatus row q (Forces q)
  passes : Contains row q → IsForcedStatus row q Open

-- a clause that forces a literal has one of these three statuses
pub forced_status : (row c : List ℕ) (q : ℕ) → IsStrictlyIncreasing c → IsForcedBy row c q
    → IsForcedStatus row q (status_of row c)
forced_status row c q rising forced = elim (left_alone row c q (AllPairs-from_increasing c rising) forced.1) [
  | inl e ↦ rw e conflict
  | inr e ↦ rw e (go (is_hinted_in row q) refl)
] where
  go : (b : Bool) → is_hinted_in row q ≡ b → IsForcedStatus row q (cond b Open (Forces q))
  go true is = passes (Contains-is_in row q is)
  go false is = forces

-- a clause of false literals is a conflict
pub false_status : (row c : List ℕ) → IsFalseIn row c → status_of row c ≡ Conflict
false_status row c h = rw (none_left row c h) refl

-- false literals stay false when a further literal is true
pub false_stays : (row c : List ℕ) (l : ℕ) → IsFalseIn row c → IsFalseIn (row ++ l ∷ []) c
false_stays row c l h = λ k d lt. Contains-append_left row (l ∷ []) (opposite_of (get_or c k d)) (h k d lt)

-- the opposites of a clause's literals make it false
pub denied : (c : List ℕ) → IsFalseIn (map opposite_of c) c
denied c = λ k d lt. Contains-map opposite_of c (get_or c k d) (All-contains_itself c k d lt)
