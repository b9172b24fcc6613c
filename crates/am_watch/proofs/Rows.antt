-- Lists of watchers after a push, a write and a removal.
use Rattle.std.proofs.Common.{ℕ, ◌≡◌, ◌≢◌, ◌+◌, ◌-◌, ◌<◌, List, [], ◌∷◌, ◌++◌, length, get_or, set, map, sym, ap, ◌∙◌}
use Rattle.std.proofs.Common.{inl, inr, arith}
use Rattle.std.specs.Prelude.{Contains, ◌⊎◌}
use Rattle.std.proofs.lemmas.List.{get_or_default, get_or-map, length-map, length-set, get_or-set_same}
use Rattle.std.proofs.lemmas.List.{get_or-set_other, map-set}
use Rattle.std.proofs.lemmas.List.Elements.{Contains-append_left, Contains-push, Contains-push_cases}
use Rattle.am_lit.proofs.Laws.{same_or}
use Rattle.am_watch.specs.declared.watcher.Watcher.{Watcher}
use Rattle.am_watch.specs.Lists.{list_at}
use Rattle.am_watch.specs.inside.Rows.{IsLonger, IsShorter, IsCutAt}

longer : (lists : List (List Watcher)) (l : ℕ) (w : Watcher) (row : List Watcher) → l < length lists
    → row ≡ list_at lists l ++ w ∷ [] → IsLonger l w lists (set lists l row)
longer lists l w row lt is =
    let same : list_at (set lists l row) l ≡ list_at lists l ++ w ∷ [] = get_or-set_same lists l row [] lt ∙ is in
    let other = λ (m : ℕ) (ne : m ≢ l). get_or-set_other lists l m row [] ne in
    record {
      count = length-set lists l row;
      keeps = λ m x h. elim (same_or m l) [
        | inl e ↦ rw (e, same) (Contains-append_left (list_at lists l) (w ∷ []) x (rw e at h))
        | inr ne ↦ rw (other m ne) h
      ];
      there = rw same (Contains-push (list_at lists l) w);
      within = λ m x h. elim (same_or m l) [
        | inl e ↦ elim (Contains-push_cases (list_at lists l) w x (rw (e, same) at h))
            [ inl old ↦ rw e (inl old) | inr y ↦ inr (sym y) ]
        | inr ne ↦ inl (rw (other m ne) at h)
      ];
      others = other;
    }

shorter : (lists : List (List Watcher)) (l j : ℕ) (row : List Watcher) → l < length lists → j < length (list_at lists l)
    → length row + 1 ≡ length (list_at lists l)
    → ((d : Watcher) → j + 1 < length (list_at lists l)
    → get_or row j d ≡ get_or (list_at lists l) (length (list_at lists l) - 1) d)
    → ((k : ℕ) (d : Watcher) → k ≢ j → k + 1 < length (list_at lists l) → get_or row k d ≡ get_or (list_at lists l) k d)
    → IsShorter l j lists (set lists l row)
shorter lists l j row lt in' short last rest =
    let same : list_at (set lists l row) l ≡ row = get_or-set_same lists l row [] lt in
    record {
      count = length-set lists l row;
      shorter = rw same short;
      begins = λ k d lo. rw same (rest k d (omega arith) (omega arith));
      keeps = λ x h. rw same (elim (same_or h.0 j) [
        | inl e ↦ inr (λ d. sym (rw e at h.2) ∙ get_or_default (list_at lists l) j x d in')
        | inr ne ↦ elim (same_or (h.0 + 1) (length (list_at lists l))) [
          | inr more ↦ inl (h.0, omega (arith, h.1), rest h.0 x ne (omega (arith, h.1)) ∙ h.2)
          | inl end ↦
              let at : length (list_at lists l) - 1 ≡ h.0 = omega arith in
              inl (j, omega (arith, h.1), last x (omega (arith, h.1)) ∙ ap (λ k. get_or (list_at lists l) k x) at ∙ h.2)
        ]
      ]);
      within = λ x h. let g = rw same at h in elim (same_or g.0 j) [
        | inl e ↦
            elim (same_or (j + 1) (length (list_at lists l))) [
              | inl end ↦ absurd (omega (arith, g.1))
              | inr more ↦ (length (list_at lists l) - 1, omega arith, sym (last x (omega arith)) ∙ rw e at g.2)
            ]
        | inr ne ↦ (g.0, omega (arith, g.1), sym (rest g.0 x ne (omega (arith, g.1))) ∙ g.2)
      ];
      others = λ m ne. get_or-set_other lists l m row [] ne;
    }

module _ {V : Type 0} (items : V → List Watcher) (rows : List V) (l : ℕ) (v : V) (lt : l < length rows)
    (is : v ≡ get_or rows l v) where
  row_there : list_at (map items rows) l ≡ items v
  row_there = get_or-map items rows l v [] lt ∙ ap items (sym is)

  in_range : l < length (map items rows)
  in_range = omega (arith, length-map rows items)

  -- a watcher that is pushed to its row comes to the list of the row's literal
  pub longer_at : (w : Watcher) (new : V) → items new ≡ items v ++ w ∷ []
      → IsLonger l w (map items rows) (map items (set rows l new))
  longer_at w new e = rw (map-set items rows l new)
      (longer (map items rows) l w (items new) in_range (e ∙ ap (λ r. r ++ w ∷ []) (sym row_there)))

  -- a watcher that is swapped out of its row goes from the list of the row's literal
  pub shorter_at : (j n : ℕ) (new : V) → n ≡ length (items v) → j < length (list_at (map items rows) l)
      → length (items new) + 1 ≡ n
      → ((d : Watcher) → j + 1 < n → get_or (items new) j d ≡ get_or (items v) (n - 1) d)
      → ((k : ℕ) (d : Watcher) → k ≢ j → k + 1 < n → get_or (items new) k d ≡ get_or (items v) k d)
      → IsShorter l j (map items rows) (map items (set rows l new))
  shorter_at j n new e in' short last rest =
      let same : n ≡ length (list_at (map items rows) l) = e ∙ ap length (sym row_there) in
      rw (map-set items rows l new) (shorter (map items rows) l j (items new) in_range in' (short ∙ same)
      (λ d lt. last d (omega arith) ∙ ap (λ r. get_or r (n - 1) d) (sym row_there)
      ∙ ap (λ m. get_or (list_at (map items rows) l) (m - 1) d) same)
      (λ k d ne lt. rest k d ne (omega arith) ∙ ap (λ r. get_or r k d) (sym row_there)))

  -- a watcher that is replaced in its row is replaced in the list of the row's literal
  pub replaced_at : (j : ℕ) (w : Watcher) (new : V) → items new ≡ set (items v) j w
      → map items (set rows l new) ≡ set (map items rows) l (set (list_at (map items rows) l) j w)
  replaced_at j w new e = map-set items rows l new
      ∙ ap (λ r. set (map items rows) l r) (e ∙ ap (λ r. set r j w) (sym row_there))

-- what a swap with the last element leaves
module _ {X : Type 0} (old row : List X) (j n : ℕ) (is : n ≡ length old) (in' : j < n) (short : length row + 1 ≡ n)
    (last : (d : X) → j + 1 < n → get_or row j d ≡ get_or old (n - 1) d) (rest : (k : ℕ) (d : X) → k ≢ j → k + 1 < n
    → get_or row k d ≡ get_or old k d) where
  -- each item is left, but maybe the one at the place
  pub swap_keeps : (x : X) → Contains old x → Contains row x ⊎ ((d : X) → x ≡ get_or old j d)
  swap_keeps x h = elim (same_or h.0 j) [
    | inl e ↦ inr (λ d. sym (rw e at h.2) ∙ get_or_default old j x d (omega arith))
    | inr ne ↦ elim (same_or (h.0 + 1) n) [
      | inr more ↦ inl (h.0, omega (arith, h.1), rest h.0 x ne (omega (arith, h.1)) ∙ h.2)
      | inl end ↦
          let at : n - 1 ≡ h.0 = omega arith in
          inl (j, omega (arith, h.1), last x (omega (arith, h.1)) ∙ ap (λ k. get_or old k x) at ∙ h.2)
    ]
  ]

  -- what is left are some of the items
  pub swap_within : (x : X) → Contains row x → Contains old x
  swap_within x g = elim (same_or g.0 j) [
    | inl e ↦ elim (same_or (j + 1) n) [
      | inl end ↦ absurd (omega (arith, g.1))
      | inr more ↦ (n - 1, omega arith, sym (last x (omega arith)) ∙ rw e at g.2)
    ]
    | inr ne ↦ (g.0, omega (arith, g.1), sym (rest g.0 x ne (omega (arith, g.1))) ∙ g.2)
  ]

  -- the items before the place stand as they did
  pub swap_cuts : IsCutAt j old row
  swap_cuts = record { shorter = short ∙ is; begins = λ k d lt. rest k d (omega arith) (omega arith) }
