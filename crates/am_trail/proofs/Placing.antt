-- Rows of variables with a place for each variable.
use Rattle.std.proofs.Common.{ℕ, ◌≡◌, ◌≢◌, ◌+◌, ◌-◌, ◌<◌, ◌≤◌, true, eqb, List, [], ◌∷◌, ◌++◌, length, get_or, set}
use Rattle.std.proofs.Common.{refl, sym, ap, ◌∙◌, inl, inr, arith, length-append}
use Rattle.std.specs.Prelude.{Contains}
use Rattle.std.specs.List.{IsDistinct, list_any}
use Rattle.std.proofs.lemmas.Bool.Decides.{Decides-eqb}
use Rattle.std.proofs.lemmas.Grind.{get_or-set_at}
use Rattle.std.proofs.lemmas.Map.Steps.{length-le_from_distinct_below}
use Rattle.std.proofs.lemmas.Map.Made.{IsDistinct-from_AllPairs, is_member-Decides}
use Rattle.std.proofs.lemmas.List.{get_or_default, length-set, get_or_append_left, get_or-set_same, get_or-set_other}
use Rattle.std.proofs.Math.Seq.{get_or-append_seam}
use Rattle.am_lit.proofs.Laws.{same_or}
use Rattle.am_trail.specs.inside.Places.{IsPlaced}
use native.Mathlib.Decide.{dec_lt}
use Prim.{yes, no}

module _ (row places : List ℕ) (h : IsPlaced row places) where
  -- the same variable stands in one place
  pub apart : (i j : ℕ) → i < length row → j < length row → get_or row i 0 ≡ get_or row j 0 → i ≡ j
  apart i j li lj e =
      let a = (h.each i li).1 in
      let b = (h.each j lj).1 in
      let c = ap (λ v. get_or places v 0) e in
      omega arith

  -- each variable of the row has a place
  pub below : (v : ℕ) → Contains row v → v < length places
  below v (k, lt, e) = rw (get_or_default row k 0 v lt ∙ e) at (h.each k lt).0

  -- there are no more variables in the row than there are places
  pub few : length row ≤ length places
  few =
      let distinct : IsDistinct eqb row = IsDistinct-from_AllPairs Decides-eqb row (λ i j d lt in' same.
      let lj : j < length row = omega arith in
      let li : i < length row = omega arith in
      let e : i ≡ j = apart i j li lj (get_or_default row i 0 d li ∙ same ∙ get_or_default row j d 0 lj) in
      omega arith) in
      let within : (q : ℕ) → list_any (eqb q) row ≡ true → q < length places =
      λ q t. below q ((is_member-Decides Decides-eqb row q).0 t) in
      length-le_from_distinct_below row (length places) distinct within

  -- the place of a variable of the row
  pub some : (v : ℕ) → Contains row v → (v < length places) × (0 < get_or places v 0) × (get_or places v 0 ≤ length row)
  some v (k, lt, e) =
      let same : get_or row k 0 ≡ v = get_or_default row k 0 v lt ∙ e in
      let here = rw same at (h.each k lt) in
      (here.0, omega (arith, here.1), omega (arith, here.1))

-- one more variable, which had no place
module _ (row places : List ℕ) (h : IsPlaced row places) (v : ℕ) (lt : v < length places)
    (free : get_or places v 0 ≡ 0) where
  more_each : (k : ℕ) → k < length (row ++ v ∷ [])
      → (get_or (row ++ v ∷ []) k 0 < length (set places v (length row + 1)))
      × (get_or (set places v (length row + 1)) (get_or (row ++ v ∷ []) k 0) 0 ≡ k + 1)
  more_each k lk = elim (dec_lt k (length row)) [
    | yes p ↦ let here = h.each k p in
        let e = get_or_append_left row (v ∷ []) 0 k p in
        let ne : get_or row k 0 ≢ v = (λ same. let z = ap (λ w. get_or places w 0) same in omega arith) in
        rw (e, length-set, get_or-set_other) here
    | no n ↦ let at_end : k ≡ length row = omega (arith, length-append row (v ∷ [])) in
        rw (at_end, get_or-append_seam row v [] 0, length-set, get_or-set_same) (lt, refl)
  ]

  more_back : (w : ℕ) → w < length (set places v (length row + 1)) → get_or (set places v (length row + 1)) w 0 ≢ 0
      → (get_or (set places v (length row + 1)) w 0 ≤ length (row ++ v ∷ []))
      × (get_or (row ++ v ∷ []) (get_or (set places v (length row + 1)) w 0 - 1) 0 ≡ w)
  more_back w lw ne = elim (same_or w v) [
    | inl same ↦ let e : get_or (set places v (length row + 1)) w 0 ≡ length row + 1 =
        get_or-set_at places v w (length row + 1) 0 same lt in
        let p : (length row + 1) - 1 ≡ length row = omega arith in
        rw (e, p, get_or-append_seam row v [] 0) (omega (arith, length-append row (v ∷ [])), sym same)
    | inr other ↦ let e : get_or (set places v (length row + 1)) w 0 ≡ get_or places w 0 =
        get_or-set_other places v w (length row + 1) 0 other in
        let some : get_or places w 0 ≢ 0 = (λ z. ne (e ∙ z)) in
        let old = h.back w (omega (arith, length-set places v (length row + 1))) some in
        let k : get_or places w 0 - 1 < length row = omega (arith, old.0, some) in
        rw (e, get_or_append_left row (v ∷ []) 0 (get_or places w 0 - 1) k)
        (omega (arith, old.0, length-append row (v ∷ [])), old.1)
  ]

  -- it gets the place after all others
  pub placed_more : IsPlaced (row ++ v ∷ []) (set places v (length row + 1))
  placed_more = record { each = more_each; back = more_back }

  -- there is room for it
  pub room : length row + 1 ≤ length places
  room = omega (
    arith,
    few (row ++ v ∷ []) (set places v (length row + 1)) placed_more,
    length-append row (v ∷ []),
    length-set places v (length row + 1),
  )

-- the last variable is taken back
module _ (row places : List ℕ) (v : ℕ) (h : IsPlaced (row ++ v ∷ []) places) where
  less_each : (k : ℕ) → k < length row → (get_or row k 0 < length (set places v 0))
      × (get_or (set places v 0) (get_or row k 0) 0 ≡ k + 1)
  less_each k lk =
      let e = get_or_append_left row (v ∷ []) 0 k lk in
      let more = length-append row (v ∷ []) in
      let here = h.each k (omega arith) in
      let last = h.each (length row) (omega arith) in
      let ne : get_or row k 0 ≢ v = (λ same.
      let z = ap (λ w. get_or places w 0) same in
      let a : get_or places (get_or row k 0) 0 ≡ k + 1 = rw e at here.1 in
      let b : get_or places v 0 ≡ length row + 1 = rw (get_or-append_seam row v [] 0) at last.1 in
      omega arith) in
      rw (length-set, get_or-set_other) (rw e at here)

  less_back : (w : ℕ) → w < length (set places v 0) → get_or (set places v 0) w 0 ≢ 0
      → (get_or (set places v 0) w 0 ≤ length row) × (get_or row (get_or (set places v 0) w 0 - 1) 0 ≡ w)
  less_back w lw ne = elim (same_or w v) [
    | inl same ↦ absurd (ne (get_or-set_at places v w 0 0 same (omega (arith, length-set places v 0))))
    | inr other ↦ let e : get_or (set places v 0) w 0 ≡ get_or places w 0 = get_or-set_other places v w 0 0 other in
        let some : get_or places w 0 ≢ 0 = (λ z. ne (e ∙ z)) in
        let old = h.back w (omega (arith, length-set places v 0)) some in
        let more = length-append row (v ∷ []) in
        let not_last : get_or places w 0 ≢ length row + 1 = (λ z.
        let p : get_or places w 0 - 1 ≡ length row = omega arith in
        other (sym (rw (p, get_or-append_seam row v [] 0) at old.1))) in
        let k : get_or places w 0 - 1 < length row = omega (arith, old.0, some, not_last) in
        rw e (omega (arith, old.0, not_last), rw (get_or_append_left row (v ∷ []) 0 (get_or places w 0 - 1) k) at old.1)
  ]

  -- it stands in no other place
  pub last_alone : ¬ (Contains row v)
  last_alone (k, lk, e) =
      let more = length-append row (v ∷ []) in
      let same : get_or (row ++ v ∷ []) k 0 ≡ get_or (row ++ v ∷ []) (length row) 0 =
      get_or_append_left row (v ∷ []) 0 k lk ∙ get_or_default row k 0 v lk ∙ e
      ∙ sym (get_or-append_seam row v [] 0) in
      let one : k ≡ length row = apart (row ++ v ∷ []) places h k (length row) (omega arith) (omega arith) same in
      omega arith

  -- it has no place any more, and the others keep theirs
  pub placed_less : IsPlaced row (set places v 0)
  placed_less = record { each = less_each; back = less_back }
