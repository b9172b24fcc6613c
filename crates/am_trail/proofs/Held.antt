-- Variables that have a place.
use Rattle.std.proofs.Common.{ℕ, ◌≡◌, ◌≢◌, ◌+◌, ◌-◌, ◌^◌, ◌<◌, ◌≤◌, eqb, List, [], ◌∷◌, ◌++◌, length, get_or, set, take}
use Rattle.std.proofs.Common.{drop, refl, sym, ap, ◌∙◌, inl, inr, arith, length-append}
use Rattle.std.specs.Prelude.{not}
use Rattle.std.specs.List.{range_with_len}
use Rattle.std.proofs.lemmas.Bool.{ne_eqb}
use Rattle.std.proofs.lemmas.List.{append-nil, drop_all, take_all, get_or_append_left, length-set, get_or-set_same}
use Rattle.std.proofs.lemmas.List.{get_or-set_other}
use Rattle.std.proofs.lemmas.Grind.{get_or-set_at}
use Rattle.std.proofs.Math.Seq.{get_or-append_seam}
use Rattle.std.proofs.lemmas.List.Elements.{filter_agree}
use Rattle.am_lit.proofs.Laws.{same_or}
use Rattle.am_trail.specs.inside.Places.{IsPlaced, placed_variables}
use Rattle.am_trail.specs.inside.Heaps.{IsFirstChild, IsHeapFrom, IsIndexedHeap, IsMoved, Sinks}
use Rattle.am_trail.proofs.Heaping.{IsSwap, sinks_top, swap_of_hole}
use Rattle.am_trail.proofs.Placing.{apart, few}

-- where the same variables have no place, the same ones have one
pub held_alike : (places new : List ℕ) → length new ≡ length places
    → ((v : ℕ) → eqb (get_or new v 0) 0 ≡ eqb (get_or places v 0) 0) → placed_variables new ≡ placed_variables places
held_alike places new e same =
    rw e (filter_agree (λ v. not (eqb (get_or new v 0) 0)) (λ v. not (eqb (get_or places v 0) 0)) (λ v. ap not (same v))
    (range_with_len 0 (length places)))

both_some : (a b : ℕ) → a ≢ 0 → b ≢ 0 → eqb a 0 ≡ eqb b 0
both_some a b p q = ne_eqb a 0 p ∙ sym (ne_eqb b 0 q)

-- two variables in each other's place
module _ (row new places places' : List ℕ) (k j : ℕ) (h : IsPlaced row places) (s : IsSwap row new k j)
    (lk : k < length row) (lj : j < length row) (ne : k ≢ j)
    (vars : length places' ≡ length places) (first : get_or places' (get_or row k 0) 0 ≡ j + 1)
    (second : get_or places' (get_or row j 0) 0 ≡ k + 1)
    (others : (v : ℕ) → v ≢ get_or row k 0 → v ≢ get_or row j 0 → get_or places' v 0 ≡ get_or places v 0) where
  swap_each : (i : ℕ) → i < length new → (get_or new i 0 < length places') × (get_or places' (get_or new i 0) 0 ≡ i + 1)
  swap_each i lt = elim (same_or i k) [
    | inl e ↦ rw (e, s.first) (rw (← vars) at (h.each j lj).0, second)
    | inr a ↦ elim (same_or i j) [
      | inl e ↦ rw (e, s.second) (rw (← vars) at (h.each k lk).0, first)
      | inr b ↦
          let inside : i < length row = omega (arith, s.count) in
          let old = h.each i inside in
          rw (
            s.others i a b,
            others (get_or row i 0) (λ e. a (apart row places h i k inside lk e))
                (λ e. b (apart row places h i j inside lj e)),
          ) (rw (← vars) at old.0, old.1)
    ]
  ]

  swap_back : (v : ℕ) → v < length places' → get_or places' v 0 ≢ 0 → (get_or places' v 0 ≤ length new)
      × (get_or new (get_or places' v 0 - 1) 0 ≡ v)
  swap_back v lt some = elim (same_or v (get_or row k 0)) [
    | inl e ↦
        let at : get_or places' v 0 ≡ j + 1 = rw e first in
        let p : get_or places' v 0 - 1 ≡ j = omega arith in
        (omega (arith, s.count), ap (λ n. get_or new n 0) p ∙ s.second ∙ sym e)
    | inr a ↦ elim (same_or v (get_or row j 0)) [
      | inl e ↦
          let at : get_or places' v 0 ≡ k + 1 = rw e second in
          let p : get_or places' v 0 - 1 ≡ k = omega arith in
          (omega (arith, s.count), ap (λ n. get_or new n 0) p ∙ s.first ∙ sym e)
      | inr b ↦
          let at : get_or places' v 0 ≡ get_or places v 0 = others v a b in
          let old = h.back v (rw vars at lt) (λ z. some (at ∙ z)) in
          let c : get_or places v 0 - 1 ≢ k = λ e. a (sym old.1 ∙ ap (λ n. get_or row n 0) e) in
          let d : get_or places v 0 - 1 ≢ j = λ e. b (sym old.1 ∙ ap (λ n. get_or row n 0) e) in
          rw at (omega (arith, old.0, s.count), s.others (get_or places v 0 - 1) c d ∙ old.1)
    ]
  ]

  swap_alike : (v : ℕ) → eqb (get_or places' v 0) 0 ≡ eqb (get_or places v 0) 0
  swap_alike v = elim (same_or v (get_or row k 0)) [
    | inl e ↦ rw e (both_some (get_or places' (get_or row k 0) 0) (get_or places (get_or row k 0) 0)
        (omega (arith, first)) (omega (arith, (h.each k lk).1)))
    | inr a ↦ elim (same_or v (get_or row j 0)) [
      | inl e ↦ rw e (both_some (get_or places' (get_or row j 0) 0) (get_or places (get_or row j 0) 0)
          (omega (arith, second)) (omega (arith, (h.each j lj).1)))
      | inr b ↦ ap (λ n. eqb n 0) (others v a b)
    ]
  ]

  pub swap_moved : IsMoved row places new places'
  swap_moved = record {
    placed = record { each = swap_each; back = swap_back };
    count = s.count;
    vars = vars;
    held = held_alike places places' vars swap_alike;
  }

-- a row that stayed was moved
pub moved_none : (row places : List ℕ) → IsPlaced row places → IsMoved row places row places
moved_none row places h = record { placed = h; count = refl; vars = refl; held = refl }

-- one move after another is a move
pub moved_trans : (a p b q c r : List ℕ) → IsMoved a p b q → IsMoved b q c r → IsMoved a p c r
moved_trans a p b q c r h g = record {
  placed = g.placed;
  count = g.count ∙ h.count;
  vars = g.vars
      ∙ h.vars;
  held = g.held ∙ h.held;
}

-- a row with a hole, in which a variable stands in mind
module _ (heap places : List ℕ) (k v : ℕ) (h : IsPlaced (set heap k v) (set places v (k + 1)))
    (lk : k < length heap) where
  -- the other places stand as they did
  pub hole_at : (j : ℕ) → k ≢ j → get_or (set heap k v) j 0 ≡ get_or heap j 0
  hole_at j ne = get_or-set_other heap k j v 0 (λ e. ne (sym e))

  -- the variables at the other places have a place
  pub hole_var : (j : ℕ) → k ≢ j → j < length heap → get_or heap j 0 < length places
  hole_var j ne lt = rw (hole_at j ne, length-set) at (h.each j (omega (arith, length-set heap k v))).0

  pub hole_self : v < length places
  hole_self = rw (get_or-set_same heap k v 0 lk, length-set) at (h.each k (omega (arith, length-set heap k v))).0

  -- there are at most as many places as variables
  pub hole_few : length heap ≤ length places
  hole_few = omega (
    arith,
    few (set heap k v) (set places v (k + 1)) h,
    length-set heap k v,
    length-set places v (k + 1),
  )

  -- the hole moves to another place
  pub hole_moved : (j : ℕ) → k ≢ j → j < length heap
      → IsMoved (set heap k v) (set places v (k + 1)) (set (set heap k (get_or heap j 0)) j v)
      (set (set places (get_or heap j 0) (k + 1)) v (j + 1))
  hole_moved j ne lj =
      let w = get_or heap j 0 in
      let lw : w < length places = hole_var j ne lj in
      let lv : v < length (set places w (k + 1)) = omega (arith, hole_self, length-set places w (k + 1)) in
      let at_k : get_or (set heap k v) k 0 ≡ v = get_or-set_same heap k v 0 lk in
      let at_j : get_or (set heap k v) j 0 ≡ w = hole_at j ne in
      let differ : w ≢ v = λ e. ne (apart (set heap k v) (set places v (k + 1)) h k j
      (omega (arith, length-set heap k v)) (omega (arith, length-set heap k v)) (at_k ∙ sym e ∙ sym at_j)) in
      swap_moved (set heap k v) (set (set heap k w) j v) (set places v (k + 1)) (set (set places w (k + 1)) v (j + 1)) k
      j h (swap_of_hole heap k j v lk lj ne)
      (omega (arith, length-set heap k v)) (omega (arith, length-set heap k v)) ne
      (length-set (set places w (k + 1)) v (j + 1) ∙ length-set places w (k + 1) ∙ sym (length-set places v (k + 1)))
      (rw at_k (get_or-set_same (set places w (k + 1)) v (j + 1) 0 lv))
      (rw at_j (get_or-set_other (set places w (k + 1)) v w (j + 1) 0 differ ∙ get_or-set_same places w (k + 1) 0 lw))
      (λ u a b.
      let c : u ≢ v = λ e. a (e ∙ sym at_k) in
      let d : u ≢ w = λ e. b (e ∙ sym at_j) in
      get_or-set_other (set places w (k + 1)) v u (j + 1) 0 c ∙ get_or-set_other places w u (k + 1) 0 d
      ∙ sym (get_or-set_other places v u (k + 1) 0 c))

  -- the first child of the hole
  pub hole_child : (acts : List ℕ) (j : ℕ) → IsFirstChild acts heap k j → IsFirstChild acts (set heap k v) k j
  hole_child acts j c = record {
    inside = omega (arith, c.inside, length-set heap k v);
    child = c.child;
    first = λ i p lt e.
        let inside : i < length heap = omega (arith, length-set heap k v) in
        rw (hole_at i (omega arith), hole_at j (omega (arith, c.child.0, c.child.1))) (c.first i p inside e);
  }

-- the variable at the head goes, and the last one fills its place
module _ (rest places : List ℕ) (v : ℕ) (h : IsPlaced (rest ++ v ∷ []) places) (some : 0 < length rest) where
  rest_at : (i : ℕ) → i < length rest → (get_or rest i 0 < length places) × (get_or places (get_or rest i 0) 0 ≡ i + 1)
  rest_at i lt = rw (get_or_append_left rest (v ∷ []) 0 i lt) at (h.each i (omega (arith, length-append rest (v ∷ []))))

  last_at : (v < length places) × (get_or places v 0 ≡ length rest + 1)
  last_at = rw (get_or-append_seam rest v [] 0) at (h.each (length rest) (omega (arith, length-append rest (v ∷ []))))

  not_last : (i : ℕ) → i < length rest → get_or rest i 0 ≢ v
  not_last i lt e = let p = (rest_at i lt).1 in let q = last_at.1 in let r = ap (λ u. get_or places u 0) e in
      omega arith

  refilled_var : (i : ℕ) → 0 < i → i < length rest
      → get_or (set (set places (get_or rest 0 0) 0) v 1) (get_or rest i 0) 0 ≡ i + 1
  refilled_var i p lt =
      let first : get_or rest i 0 ≢ get_or rest 0 0 = λ e. let a = (rest_at i lt).1 in let b = (rest_at 0 some).1 in
      let r = ap (λ u. get_or places u 0) e in omega arith in
      get_or-set_other (set places (get_or rest 0 0) 0) v (get_or rest i 0) 1 0 (not_last i lt)
      ∙ get_or-set_other places (get_or rest 0 0) (get_or rest i 0) 0 0 first ∙ (rest_at i lt).1

  refilled_last : get_or (set (set places (get_or rest 0 0) 0) v 1) v 0 ≡ 1
  refilled_last = get_or-set_same (set places (get_or rest 0 0) 0) v 1 0
      (omega (arith, last_at.0, length-set places (get_or rest 0 0) 0))

  refilled_vars : length (set (set places (get_or rest 0 0) 0) v 1) ≡ length places
  refilled_vars = length-set (set places (get_or rest 0 0) 0) v 1 ∙ length-set places (get_or rest 0 0) 0

  refilled_each : (i : ℕ) → i < length (set rest 0 v)
      → (get_or (set rest 0 v) i 0 < length (set (set places (get_or rest 0 0) 0) v 1))
      × (get_or (set (set places (get_or rest 0 0) 0) v 1) (get_or (set rest 0 v) i 0) 0 ≡ i + 1)
  refilled_each i lt = elim (same_or i 0) [
    | inl e ↦ rw (e, get_or-set_same rest 0 v 0 some, refilled_vars) (last_at.0, refilled_last)
    | inr ne ↦
        let inside : i < length rest = omega (arith, length-set rest 0 v) in
        let pos : 0 < i = omega arith in
        rw (get_or-set_other rest 0 i v 0 ne, refilled_vars) ((rest_at i inside).0, refilled_var i pos inside)
  ]

  refilled_back : (u : ℕ) → u < length (set (set places (get_or rest 0 0) 0) v 1)
      → get_or (set (set places (get_or rest 0 0) 0) v 1) u 0 ≢ 0
      → (get_or (set (set places (get_or rest 0 0) 0) v 1) u 0 ≤ length (set rest 0 v))
      × (get_or (set rest 0 v) (get_or (set (set places (get_or rest 0 0) 0) v 1) u 0 - 1) 0 ≡ u)
  refilled_back u lt there = elim (same_or u v) [
    | inl e ↦ rw (e, refilled_last, length-set rest 0 v) (some, get_or-set_same rest 0 v 0 some)
    | inr a ↦
        let one : get_or (set (set places (get_or rest 0 0) 0) v 1) u 0 ≡ get_or (set places (get_or rest 0 0) 0) u 0 =
        get_or-set_other (set places (get_or rest 0 0) 0) v u 1 0 a in
        elim (same_or u (get_or rest 0 0)) [
          | inl e ↦ absurd (there (one ∙ get_or-set_at places (get_or rest 0 0) u 0 0 e (rest_at 0 some).0))
          | inr b ↦
              let at : get_or (set (set places (get_or rest 0 0) 0) v 1) u 0 ≡ get_or places u 0 =
              one ∙ get_or-set_other places (get_or rest 0 0) u 0 0 b in
              let old = h.back u (rw refilled_vars at lt) (λ z. there (at ∙ z)) in
              let long = length-append rest (v ∷ []) in
              let end : get_or places u 0 - 1 ≢ length rest =
              λ e. a (sym old.1 ∙ ap (λ n. get_or (rest ++ v ∷ []) n 0) e ∙ get_or-append_seam rest v [] 0) in
              let inside : get_or places u 0 - 1 < length rest = omega (arith, old.0, end) in
              let here : get_or rest (get_or places u 0 - 1) 0 ≡ u =
              sym (get_or_append_left rest (v ∷ []) 0 (get_or places u 0 - 1) inside) ∙ old.1 in
              let head : get_or places u 0 - 1 ≢ 0 = λ e. b (sym here ∙ ap (λ n. get_or rest n 0) e) in
              rw (at, length-set rest 0 v)
              (omega (arith, inside), get_or-set_other rest 0 (get_or places u 0 - 1) v 0 head ∙ here)
        ]
  ]

  -- the row without its head is placed, with the last variable there
  pub refilled : IsPlaced (set rest 0 v) (set (set places (get_or rest 0 0) 0) v 1)
  refilled = record { each = refilled_each; back = refilled_back }

  -- the same variables are held as where the head alone lost its place
  pub refilled_held : placed_variables (set (set places (get_or rest 0 0) 0) v 1) ≡ placed_variables
      (set places (get_or rest 0 0) 0)
  refilled_held = held_alike (set places (get_or rest 0 0) 0) (set (set places (get_or rest 0 0) 0) v 1)
      (length-set (set places (get_or rest 0 0) 0) v 1) alike where
        alike : (u : ℕ) → eqb (get_or (set (set places (get_or rest 0 0) 0) v 1) u 0) 0 ≡ eqb
            (get_or (set places (get_or rest 0 0) 0) u 0) 0
        alike u = elim (same_or u v) [
          | inl e ↦
              let other : v ≢ get_or rest 0 0 = λ f. not_last 0 some (sym f) in
              rw (e, refilled_last, get_or-set_other places (get_or rest 0 0) v 0 0 other)
              (both_some 1 (get_or places v 0) (omega arith) (omega (arith, last_at.1)))
          | inr ne ↦ ap (λ n. eqb n 0) (get_or-set_other (set places (get_or rest 0 0) 0) v u 1 0 ne)
        ]

  -- only the new head may stand before its children
  pub refilled_sinks : (acts : List ℕ) → IsHeapFrom 0 acts (rest ++ v ∷ []) → Sinks 0 acts (set rest 0 v) 0
  refilled_sinks acts ordered = sinks_top acts (rest ++ v ∷ []) (set rest 0 v)
      (omega (arith, length-append rest (v ∷ []), length-set rest 0 v))
      (λ i p lt. get_or-set_other rest 0 i v 0 (omega arith)
      ∙ sym (get_or_append_left rest (v ∷ []) 0 i (omega (arith, length-set rest 0 v)))) ordered

-- the same vector, written back through its slice
pub write_back : (n : ℕ) (new old : List ℕ) → length new ≡ length old → n ≡ length old
    → take n (new ++ drop (length new) old) ≡ new
write_back n new old same is = rw (same, drop_all (length old) old (omega arith), append-nil new, is, ← same)
    (take_all (length new) new (omega arith))

-- a heap whose variables were moved is one again
pub indexed : (acts heap places new places' : List ℕ) (capacity : ℕ) → length acts ≡ length places
    → length places ≤ capacity → length places < 2 ^ 32
    → IsMoved heap places new places' → IsHeapFrom 0 acts new → IsIndexedHeap acts new places' capacity
indexed acts heap places new places' capacity count room small moved ordered = record {
  placed = moved.placed;
  ordered = ordered;
  count = count ∙ sym moved.vars;
  room = omega (arith, moved.vars);
  small = omega (arith, moved.vars);
}
