-- Heaps of variables: what one step of a rise or a sink leaves.
use Rattle.std.proofs.Common.{ℕ, ◌≡◌, ◌≢◌, ◌+◌, ◌-◌, ◌*◌, ◌/◌, ◌<◌, ◌≤◌, suc, zero, true, List, [], ◌∷◌, ◌++◌, length}
use Rattle.std.proofs.Common.{get_or, set, sym, ap, ◌∙◌, inl, inr, arith, length-append}
use Rattle.std.proofs.lemmas.List.{length-set, get_or_append_left, get_or-set_same, get_or-set_other}
use Rattle.am_lit.proofs.Laws.{same_or}
use Rattle.am_trail.specs.Orders.{comes_before}
use Rattle.am_trail.specs.inside.Places.{IsPlaced}
use Rattle.am_trail.specs.inside.Heaps.{IsAfter, IsFirstChild, IsHeapFrom, Rises, Sinks, parent_of}
use Rattle.am_trail.proofs.Before.{after_after, after_raised, before_itself, before_one}
use Rattle.am_trail.proofs.Placing.{apart}

-- two variables of a row in each other's place
pub record IsSwap (row new : List ℕ) (k j : ℕ) : Type 0 where
  pub count : length new ≡ length row
  pub first : get_or new k 0 ≡ get_or row j 0
  pub second : get_or new j 0 ≡ get_or row k 0
  pub others : (i : ℕ) → i ≢ k → i ≢ j → get_or new i 0 ≡ get_or row i 0

-- a variable at a hole moves on, and the one from there fills the hole
pub swap_of_hole : (heap : List ℕ) (k j v : ℕ) → k < length heap → j < length heap → k ≢ j
    → IsSwap (set heap k v) (set (set heap k (get_or heap j 0)) j v) k j
swap_of_hole heap k j v lk lj ne =
    let back : j ≢ k = λ e. ne (sym e) in
    let long : j < length (set heap k (get_or heap j 0)) = omega (arith, length-set heap k (get_or heap j 0)) in
    record {
      count = length-set (set heap k (get_or heap j 0)) j v ∙ length-set heap k (get_or heap j 0)
          ∙ sym (length-set heap k v);
      first = get_or-set_other (set heap k (get_or heap j 0)) j k v 0 ne ∙ get_or-set_same heap k (get_or heap j 0) 0 lk
          ∙ sym (get_or-set_other heap k j v 0 back);
      second = get_or-set_same (set heap k (get_or heap j 0)) j v 0 long ∙ sym (get_or-set_same heap k v 0 lk);
      others = λ i a b. get_or-set_other (set heap k (get_or heap j 0)) j i v 0 b
          ∙ get_or-set_other heap k i (get_or heap j 0) 0 a ∙ sym (get_or-set_other heap k i v 0 a);
    }

module _ (acts row new : List ℕ) where
  -- what two places show in another row
  along : (i j i' j' : ℕ) → get_or new i 0 ≡ get_or row i' 0 → get_or new j 0 ≡ get_or row j' 0 → IsAfter acts row i' j'
      → IsAfter acts new i j
  along i j i' j' e f h = rw (e, f) h

  module _ (k j : ℕ) (s : IsSwap row new k j) (lk : k < length row) (lj : j < length row) (ne : k ≢ j) where
    -- the variable at k rises to its parent's place j
    module _ (parent : parent_of k ≡ j) (up : 0 < k) (h : Rises acts row k)
        (before : comes_before acts (get_or row k 0) (get_or row j 0) ≡ true) where
      back : j ≢ k
      back e = ne (sym e)

      over : (i : ℕ) → 0 < i → i < length row → parent_of i ≡ j → i ≢ k → IsAfter acts row i j
      over i p lt e a = rw e at (h.others i p lt a)

      rise_others : (i : ℕ) → 0 < i → i < length new → i ≢ j → IsAfter acts new i (parent_of i)
      rise_others i p lt b = elim (same_or i k) [
        | inl e ↦ rw (e, parent) (along k j j k s.first s.second
            (before_one acts (get_or row k 0) (get_or row j 0) before))
        | inr a ↦ elim (same_or (parent_of i) k) [
          | inl e ↦ rw e (along i k i j (s.others i a b) s.first
              (rw parent at (h.children i p (omega (arith, s.count)) e up)))
          | inr c ↦ elim (same_or (parent_of i) j) [
            | inl e ↦ rw e (along i j i k (s.others i a b) s.second
                (after_after acts (get_or row i 0) (get_or row j 0) (get_or row k 0)
                (over i p (omega (arith, s.count)) e a) (before_one acts (get_or row k 0) (get_or row j 0) before)))
            | inr d ↦ along i (parent_of i) i (parent_of i) (s.others i a b) (s.others (parent_of i) c d)
                (h.others i p (omega (arith, s.count)) a)
          ]
        ]
      ]

      rise_children : (i : ℕ) → 0 < i → i < length new → parent_of i ≡ j → 0 < j → IsAfter acts new i (parent_of j)
      rise_children i p lt e q =
          let c : parent_of j ≢ k = omega arith in
          let d : parent_of j ≢ j = omega arith in
          let b : i ≢ j = omega arith in
          let upper : IsAfter acts row j (parent_of j) = h.others j q lj back in
          elim (same_or i k) [
            | inl same ↦ rw same (along k (parent_of j) j (parent_of j) s.first (s.others (parent_of j) c d) upper)
            | inr a ↦ along i (parent_of j) i (parent_of j) (s.others i a b) (s.others (parent_of j) c d)
                (after_after acts (get_or row i 0) (get_or row j 0) (get_or row (parent_of j) 0)
                (over i p (omega (arith, s.count)) e a) upper)
          ]

      -- the variable rises on from its parent's place
      pub rise_step : Rises acts new j
      rise_step = record { others = rise_others; children = rise_children }

    -- the variable at k sinks to the place j of its first child
    module _ (low : ℕ) (child : IsFirstChild acts row k j) (h : Sinks low acts row k)
        (after : comes_before acts (get_or row j 0) (get_or row k 0) ≡ true) where
      sink_others : (i : ℕ) → 0 < i → i < length new → low ≤ parent_of i → parent_of i ≢ j
          → IsAfter acts new i (parent_of i)
      sink_others i p lt le c = elim (same_or (parent_of i) k) [
        | inl e ↦ elim (same_or i j) [
          | inl same ↦ rw (e, same) (along j k k j s.second s.first
              (before_one acts (get_or row j 0) (get_or row k 0) after))
          | inr b ↦ rw e (along i k i j (s.others i (omega arith) b) s.first
              (child.first i p (omega (arith, s.count)) e))
        ]
        | inr d ↦ elim (same_or i k) [
          | inl same ↦ rw same (along k (parent_of k) j (parent_of k) s.first
              (s.others (parent_of k) (omega arith) (rw same at c))
              (h.children j child.child.0 lj child.child.1 (omega arith) (rw same at le)))
          | inr a ↦
              let b : i ≢ j = λ same. d (ap parent_of same ∙ child.child.1) in
              along i (parent_of i) i (parent_of i) (s.others i a b) (s.others (parent_of i) d c)
              (h.others i p (omega (arith, s.count)) le d)
        ]
      ]

      sink_children : (i : ℕ) → 0 < i → i < length new → parent_of i ≡ j → 0 < j → low ≤ parent_of j
          → IsAfter acts new i (parent_of j)
      sink_children i p lt e q le =
          let up : parent_of j ≡ k = child.child.1 in
          let a : i ≢ k = omega arith in
          let b : i ≢ j = omega arith in
          rw up (along i k i j (s.others i a b) s.first
          (rw e at (h.others i p (omega (arith, s.count)) (omega arith) (λ same. ne (sym (sym e ∙ same))))))

      -- the variable sinks on from its child's place
      pub sink_step : Sinks low acts new j
      sink_step = record { others = sink_others; children = sink_children }

-- a variable at the head has risen
pub risen_top : (acts heap : List ℕ) (k : ℕ) → Rises acts heap k → k ≡ 0 → IsHeapFrom 0 acts heap
risen_top acts heap k h e = λ i p lt le. h.others i p lt (omega arith)

-- a variable whose parent comes before it has risen
pub risen : (acts heap : List ℕ) (k : ℕ) → Rises acts heap k → IsAfter acts heap k (parent_of k)
    → IsHeapFrom 0 acts heap
risen acts heap k h after = λ i p lt le. elim (same_or i k) [ inl e ↦ rw e after | inr ne ↦ h.others i p lt ne ]

-- a variable with no child has sunk
pub sunk_end : (low : ℕ) (acts heap : List ℕ) (k : ℕ) → Sinks low acts heap k → length heap ≤ 2 * k + 1
    → IsHeapFrom low acts heap
sunk_end low acts heap k h end = λ i p lt le. h.others i p lt le (omega arith)

-- a variable whose first child comes after it has sunk
pub sunk : (low : ℕ) (acts heap : List ℕ) (k c : ℕ) → Sinks low acts heap k → IsFirstChild acts heap k c
    → IsAfter acts heap c k → IsHeapFrom low acts heap
sunk low acts heap k c h child after = λ i p lt le. elim (same_or (parent_of i) k) [
  | inl e ↦ rw e (after_after acts (get_or heap i 0) (get_or heap c 0) (get_or heap k 0) (child.first i p lt e) after)
  | inr ne ↦ h.others i p lt le ne
]

-- no variable comes before the head
pub head_first : (acts heap : List ℕ) → IsHeapFrom 0 acts heap → (fuel i : ℕ) → i < fuel → i < length heap
    → IsAfter acts heap i 0
head_first acts heap h zero i lt inside = absurd (omega arith)
head_first acts heap h (suc fuel) i lt inside = elim (same_or i 0) [
  | inl e ↦ rw e (before_itself acts (get_or heap 0 0))
  | inr ne ↦ after_after acts (get_or heap i 0) (get_or heap (parent_of i) 0) (get_or heap 0 0)
      (h i (omega arith) inside (omega arith)) (head_first acts heap h fuel (parent_of i) (omega arith) (omega arith))
]

-- a heap from after a place on is one but for that place
pub sinks_next : (acts heap : List ℕ) (k : ℕ) → IsHeapFrom (k + 1) acts heap → Sinks k acts heap k
sinks_next acts heap k h = record {
  others = λ i p lt le ne. h i p lt (omega arith);
  children = λ i p lt e q le. absurd (omega arith);
}

-- the children of the last places would stand after them
pub heap_end : (acts heap : List ℕ) → IsHeapFrom (length heap / 2) acts heap
heap_end acts heap = λ i p lt le. absurd (omega arith)

-- another variable at the head
pub sinks_top : (acts heap new : List ℕ) → length new ≤ length heap
    → ((i : ℕ) → 0 < i → i < length new → get_or new i 0 ≡ get_or heap i 0) → IsHeapFrom 0 acts heap
    → Sinks 0 acts new 0
sinks_top acts heap new le same h = record {
  others = λ i p lt low ne. rw (same i p lt, same (parent_of i) (omega arith) (omega arith))
      (h i p (omega arith) (omega arith));
  children = λ i p lt e q low. absurd (omega arith);
}

-- one more variable at the end
pub rises_last : (acts heap : List ℕ) (v : ℕ) → IsHeapFrom 0 acts heap → Rises acts (heap ++ v ∷ []) (length heap)
rises_last acts heap v h = record {
  others = λ i p lt ne.
      let inside : i < length heap = omega (arith, length-append heap (v ∷ [])) in
      rw (get_or_append_left heap (v ∷ []) 0 i inside, get_or_append_left heap (v ∷ []) 0 (parent_of i) (omega arith))
      (h i p inside (omega arith));
  children = λ i p lt e q. absurd (omega (arith, length-append heap (v ∷ [])));
}

-- a variable became more active
module _ (acts new heap places : List ℕ) (v : ℕ) (h : IsHeapFrom 0 acts heap) (more : get_or acts v 0 ≤ get_or new v 0)
    (same : (w : ℕ) → w ≢ v → get_or new w 0 ≡ get_or acts w 0) where
  least : (w : ℕ) → get_or acts w 0 ≤ get_or new w 0
  least w = elim (same_or w v) [ inl e ↦ rw e more | inr ne ↦ omega (arith, same w ne) ]

  still : (i j : ℕ) → get_or heap i 0 ≢ v → IsAfter acts heap i j → IsAfter new heap i j
  still i j ne after = after_raised acts new (get_or heap i 0) (get_or heap j 0) after (same (get_or heap i 0) ne)
      (least (get_or heap j 0))

  -- which isn't there
  pub raised_outside : ((i : ℕ) → i < length heap → get_or heap i 0 ≢ v) → IsHeapFrom 0 new heap
  raised_outside absent = λ i p lt le. still i (parent_of i) (absent i lt) (h i p lt le)

  -- which stands at a place
  pub raised : IsPlaced heap places → (k : ℕ) → k < length heap → get_or heap k 0 ≡ v → Rises new heap k
  raised placed k lk at = record {
    others = λ i p lt ne. still i (parent_of i) (other i lt ne) (h i p lt (omega arith));
    children = λ i p lt e q.
        still i (parent_of k) (other i lt (omega arith))
        (after_after acts (get_or heap i 0) (get_or heap k 0) (get_or heap (parent_of k) 0)
        (rw e at (h i p lt (omega arith))) (h k q lk (omega arith)));
  } where
    other : (i : ℕ) → i < length heap → i ≢ k → get_or heap i 0 ≢ v
    other i lt ne e = ne (apart heap places placed i k lt lk (e ∙ sym at))

-- the variable v gets the activity a, which is no smaller
module _ (acts heap places : List ℕ) (v a : ℕ) (h : IsPlaced heap places) (ordered : IsHeapFrom 0 acts heap)
    (lt : v < length acts) (more : get_or acts v 0 ≤ a) (inside : v < length places) where
  at_v : get_or acts v 0 ≤ get_or (set acts v a) v 0
  at_v = rw (get_or-set_same acts v a 0 lt) more

  -- where it has a place
  pub raised_there : (n : ℕ) → n ≡ get_or places v 0 → 0 < n → Rises (set acts v a) heap (n - 1)
  raised_there n e pos =
      let back = h.back v inside (omega arith) in
      raised acts (set acts v a) heap places v ordered at_v (λ w ne. get_or-set_other acts v w a 0 ne) h (n - 1)
      (omega (arith, back.0)) (ap (λ k. get_or heap (k - 1) 0) e ∙ back.1)

  -- where it has none
  pub raised_absent : (n : ℕ) → n ≡ get_or places v 0 → n ≤ 0 → IsHeapFrom 0 (set acts v a) heap
  raised_absent n e none = raised_outside acts (set acts v a) heap places v ordered at_v
      (λ w ne. get_or-set_other acts v w a 0 ne) absent where
        absent : (i : ℕ) → i < length heap → get_or heap i 0 ≢ v
        absent i li same = let here = (h.each i li).1 in let r = ap (λ w. get_or places w 0) same in omega arith
