-- The variables that an order holds.
use Rattle.std.proofs.Common.{ℕ, zero, suc, ◌≡◌, ◌≢◌, ◌+◌, ◌-◌, ◌/◌, ◌<◌, ◌≤◌, Bool, true, eqb, All, List, [], ◌∷◌}
use Rattle.std.proofs.Common.{◌++◌, length, get_or, set, filter, replicate, Option, Some, None, refl, sym, ap, ◌∙◌, inl}
use Rattle.std.proofs.Common.{inr, arith, add-one, add-zero, zero-add}
use Rattle.std.specs.Prelude.{Contains, IfNone, IfSome, not}
use Rattle.std.specs.List.{range_with_len}
use Rattle.std.specs.List.Sorted.{IsStrictlyIncreasing}
use Rattle.std.proofs.lemmas.Bool.{ne_eqb}
use Rattle.std.proofs.lemmas.List.{get_or_default, get_or-replicate, length-set, get_or-set_same, get_or-set_other}
use Rattle.std.proofs.lemmas.List.Elements.{All-contains, All-contains_itself, All-filter, Contains-get_or}
use Rattle.std.proofs.lemmas.List.Elements.{filter_passes}
use Rattle.std.proofs.lemmas.List.FromFn.{get_or-range_with_len, length-range_with_len}
use Rattle.std.proofs.lemmas.List.Kept.{IsStrictlyIncreasing-filter}
use Rattle.am_lit.proofs.Laws.{Contains-filter, Contains-here, Contains-tail, same_or}
use Rattle.am_trail.specs.Orders.{HoldsAllBut, HoldsAlso, IsFirst, Ranked}
use Rattle.am_trail.specs.inside.Places.{IsPlaced, placed_variables}
use Rattle.am_trail.specs.inside.Heaps.{IsHeapFrom}
use Rattle.am_trail.proofs.Before.{after_same, before_other}
use Rattle.am_trail.proofs.Heaping.{head_first}
use Rattle.am_trail.proofs.Placing.{below, some}

passes : (n : ℕ) → n ≢ 0 → not (eqb n 0) ≡ true
passes n ne = rw (ne_eqb n 0 ne) refl

from_passes : (n : ℕ) → not (eqb n 0) ≡ true → n ≢ 0
from_passes zero e z = cc
from_passes (suc n) e z = absurd (omega arith)

-- the numbers below a number
pub in_range : (n v : ℕ) → v < n → Contains (range_with_len 0 n) v
in_range n v lt = (v, omega (arith, length-range_with_len 0 n), get_or-range_with_len 0 n v v lt ∙ zero-add v)

-- a number in the range is below its end
pub from_range : (n v : ℕ) → Contains (range_with_len 0 n) v → v < n
from_range n v (k, lt, e) =
    let inside : k < n = omega (arith, length-range_with_len 0 n) in
    let at : get_or (range_with_len 0 n) k v ≡ 0 + k = get_or-range_with_len 0 n k v inside in
    omega arith

module _ (places : List ℕ) where
  has_place : ℕ → Bool
  has_place v = not (eqb (get_or places v 0) 0)

  -- a variable is held exactly where it has a place
  pub held : (v : ℕ) → v < length places → get_or places v 0 ≢ 0 → Contains (placed_variables places) v
  held v lt ne = Contains-filter (λ w. not (eqb (get_or places w 0) 0)) (range_with_len 0 (length places)) v
      (in_range (length places) v lt) (passes (get_or places v 0) ne)

  pub from_held : (v : ℕ) → Contains (placed_variables places) v → (v < length places) × (get_or places v 0 ≢ 0)
  from_held v there =
      let range = range_with_len 0 (length places) in
      let pass : not (eqb (get_or places v 0) 0) ≡ true =
      All-contains (λ w. not (eqb (get_or places w 0) 0) ≡ true) (placed_variables places) v
      (filter_passes (λ w. not (eqb (get_or places w 0) 0)) range) there in
      let member : Contains range v = All-contains (Contains range) (placed_variables places) v
      (All-filter (λ w. not (eqb (get_or places w 0) 0)) (Contains range) range (All-contains_itself range))
      there in
      (from_range (length places) v member, from_passes (get_or places v 0) pass)

  rising : IsStrictlyIncreasing (range_with_len 0 (length places))
  rising k lt =
      let n = length places in
      let long = length-range_with_len 0 n in
      rw (get_or-range_with_len 0 n k 0 (omega arith), get_or-range_with_len 0 n (k + 1) 0 (omega arith)) (omega arith)

  -- the held variables stand in the order of their numbers, each once
  pub held_rises : IsStrictlyIncreasing (placed_variables places)
  held_rises = IsStrictlyIncreasing-filter (λ w. not (eqb (get_or places w 0) 0)) (range_with_len 0 (length places))
      rising

none_of : (xs : List ℕ) → ((x : ℕ) → ¬ (Contains xs x)) → xs ≡ []
none_of [] h = refl
none_of (x ∷ xs) h = absurd (h x (Contains-here x xs x refl))

-- where the heap is empty, none is held
pub held_none : (heap places : List ℕ) → IsPlaced heap places → heap ≡ [] → placed_variables places ≡ []
held_none heap places h e = none_of (placed_variables places) absent where
  absent : (v : ℕ) → ¬ (Contains (placed_variables places) v)
  absent v there =
      let at = from_held places v there in
      let back = h.back v at.0 at.1 in
      omega (arith, back.0, at.1, ap length e)

-- a variable that gets a place is held too
pub holds_also : (acts places : List ℕ) (v n : ℕ) → v < length places → n ≢ 0
    → HoldsAlso v (record { activities = acts; held = placed_variables places })
    (record { activities = acts; held = placed_variables (set places v n) })
holds_also acts places v n lt placed = record {
  activities = refl;
  held = λ w. (
    λ there. let at = from_held (set places v n) w there in elim (same_or w v) [
      | inl e ↦ inr e
      | inr ne ↦ inl (held places w (omega (arith, at.0, length-set places v n))
          (rw (get_or-set_other places v w n 0 ne) at at.1))
    ],
    λ there. elim (same_or w v) [
      | inl e ↦ rw e (held (set places v n) v (omega (arith, length-set places v n))
          (rw (get_or-set_same places v n 0 lt) placed))
      | inr ne ↦ elim there [
        | inl old ↦ let at = from_held places w old in
            held (set places v n) w (omega (arith, at.0, length-set places v n))
            (rw (get_or-set_other places v w n 0 ne) at.1)
        | inr e ↦ absurd (ne e)
      ]
    ],
  );
}

-- a variable that has a place is held already
pub holds_already : (acts places : List ℕ) (v : ℕ) → v < length places → get_or places v 0 ≢ 0
    → HoldsAlso v (record { activities = acts; held = placed_variables places })
    (record { activities = acts; held = placed_variables places })
holds_already acts places v lt placed = record {
  activities = refl;
  held = λ w. (λ there. inl there, λ there. elim there [ inl old ↦ old | inr e ↦ rw e (held places v lt placed) ]);
}

-- a variable that loses its place isn't held
pub holds_all_but : (acts places : List ℕ) (v : ℕ) → v < length places
    → HoldsAllBut v (record { activities = acts; held = placed_variables places })
    (record { activities = acts; held = placed_variables (set places v 0) })
holds_all_but acts places v lt = record {
  activities = refl;
  held = λ w. (
    λ there. let at = from_held (set places v 0) w there in elim (same_or w v) [
      | inl e ↦ absurd (at.1 (rw e (get_or-set_same places v 0 0 lt)))
      | inr ne ↦ (
        held places w (omega (arith, at.0, length-set places v 0))
            (rw (get_or-set_other places v w 0 0 ne) at at.1),
        ne,
      )
    ],
    λ there. let at = from_held places w there.0 in
        held (set places v 0) w (omega (arith, at.0, length-set places v 0))
        (rw (get_or-set_other places v w 0 0 there.1) at.1),
  );
}

-- the head of the heap comes first
pub head_is_first : (acts heap places : List ℕ) → IsPlaced heap places → IsHeapFrom 0 acts heap → 0 < length heap
    → IsFirst (record { activities = acts; held = placed_variables places }) (get_or heap 0 0)
head_is_first acts heap places h ordered filled = record {
  held = let first = h.each 0 filled in held places (get_or heap 0 0) first.0 (omega (arith, first.1));
  before = λ k d lt ne.
      let w = get_or (placed_variables places) k d in
      let at = from_held places w (k, lt, get_or_default (placed_variables places) k w d lt) in
      let back = h.back w at.0 at.1 in
      let inside : get_or places w 0 - 1 < length heap = omega (arith, back.0, at.1) in
      before_other acts w (get_or heap 0 0)
      (rw back.1 at (head_first acts heap ordered (length heap) (get_or places w 0 - 1) inside inside))
      (λ e. ne (sym e));
}

-- what an order of these activities and places shows
abbrev pub shown : List ℕ → List ℕ → Ranked
shown acts places = record { activities = acts; held = placed_variables places }

-- what taking the head of the heap says of an order
module _ (acts heap places new : List ℕ) (h : IsPlaced heap places) where
  -- None is answered where no variable is held, and nothing changes
  pub taken_none : (r : Option ℕ) → IfNone r (heap ≡ []) → IfNone r (new ≡ places)
      → IfNone r ((placed_variables places ≡ []) × (shown acts new ≡ shown acts places))
  taken_none None empty same = (held_none heap places h empty, ap (shown acts) same)
  taken_none (Some v) empty same = tt

  -- a variable that is answered comes first
  pub taken_first : (r : Option ℕ) → IsHeapFrom 0 acts heap → IfSome r (λ v. 0 < length heap)
      → IfSome r (λ v. get_or heap 0 0 ≡ v) → IfSome r (IsFirst (shown acts places))
  taken_first None ordered filled first = tt
  taken_first (Some v) ordered filled first = rw first at (head_is_first acts heap places h ordered filled)

  -- and all others are held on
  pub taken_but : (r : Option ℕ) → IfSome r (λ v. 0 < length heap) → IfSome r (λ v. get_or heap 0 0 ≡ v)
      → IfSome r (λ v. placed_variables new ≡ placed_variables (set places v 0))
      → IfSome r (λ v. HoldsAllBut v (shown acts places) (shown acts new))
  taken_but None filled first same = tt
  taken_but (Some v) filled first same =
      let lt : v < length places = rw first at (h.each 0 filled).0 in
      rw same (holds_all_but acts places v lt)

-- where all activities are the same, a rising row is a heap
pub same_heap : (acts heap : List ℕ) → ((v w : ℕ) → Contains heap v → Contains heap w
    → get_or acts v 0 ≡ get_or acts w 0) → ((i j : ℕ) → i < j → j < length heap → get_or heap i 0 ≤ get_or heap j 0)
    → IsHeapFrom 0 acts heap
same_heap acts heap same rise = λ i p lt le.
    let up : (i - 1) / 2 < i = omega arith in
    after_same acts (get_or heap i 0) (get_or heap ((i - 1) / 2) 0)
    (same (get_or heap i 0) (get_or heap ((i - 1) / 2) 0) (at i lt) (at ((i - 1) / 2) (omega arith)))
    (rise ((i - 1) / 2) i up lt) where
      at : (i : ℕ) → i < length heap → Contains heap (get_or heap i 0)
      at i lt = Contains-get_or heap i 0 lt

-- the held variables are below the number of places
pub held_below : (places : List ℕ) → All (λ v. v < length places) (placed_variables places)
held_below places = λ k d lt. (from_held places (get_or (placed_variables places) k d)
    (Contains-get_or (placed_variables places) k d lt)).0

range_more : (a n : ℕ) → range_with_len a (suc n) ≡ range_with_len a n ++ (a + n) ∷ []
range_more a zero = rw add-zero refl
range_more a (suc n) = let e : (a + 1) + n ≡ a + suc n = omega arith in
    rw (← e) (ap (λ r. a ∷ r) (range_more (a + 1) n))

-- one more number in a range
pub range_push : (n : ℕ) → range_with_len 0 n ++ n ∷ [] ≡ range_with_len 0 (n + 1)
range_push n = rw (add-one n, range_more 0 n, zero-add n) refl

filter_all : (p : ℕ → Bool) (xs : List ℕ) → ((x : ℕ) → Contains xs x → p x ≡ true) → filter p xs ≡ xs
filter_all p [] h = refl
filter_all p (x ∷ xs) h = rw (h x (Contains-here x xs x refl))
    (ap (λ r. x ∷ r) (filter_all p xs (λ y there. h y (Contains-tail x xs y there))))

-- a row of all variables holds them all
module _ (heap places : List ℕ) (h : IsPlaced heap places) (all : heap ≡ range_with_len 0 (length places)) where
  -- all variables are held
  pub held_all : placed_variables places ≡ range_with_len 0 (length places)
  held_all = filter_all (λ v. not (eqb (get_or places v 0) 0)) (range_with_len 0 (length places)) pass where
    pass : (v : ℕ) → Contains (range_with_len 0 (length places)) v → not (eqb (get_or places v 0) 0) ≡ true
    pass v there =
        let at = some heap places h v (rw (← all) at there) in
        passes (get_or places v 0) (omega (arith, at.1))

  -- and is a heap where no variable is active
  pub new_heap : (acts : List ℕ) → acts ≡ replicate (length places) 0 → IsHeapFrom 0 acts heap
  new_heap acts zeros = same_heap acts heap (λ v w a b. zero_at v (below heap places h v a)
      ∙ sym (zero_at w (below heap places h w b))) rises where
        zero_at : (v : ℕ) → v < length places → get_or acts v 0 ≡ 0
        zero_at v lt = rw zeros (get_or-replicate (length places) v 0 0 lt)

        rises : (i j : ℕ) → i < j → j < length heap → get_or heap i 0 ≤ get_or heap j 0
        rises i j lt inside =
            let n = length places in
            let long : length heap ≡ n = ap length all ∙ length-range_with_len 0 n in
            rw (all, get_or-range_with_len 0 n i 0 (omega arith), get_or-range_with_len 0 n j 0 (omega arith))
            (omega arith)
