-- What each change of watches and trail keeps.
use Rattle.std.proofs.Common.{ℕ, ◌≡◌, ◌≢◌, ◌+◌, ◌<◌, ◌≤◌, List, [], ◌∷◌, ◌++◌, All, length, get_or, set, take, drop}
use Rattle.std.proofs.Common.{sym, ap, ◌∙◌, inl, inr, arith}
use Rattle.std.specs.Prelude.{Contains, ◌⊎◌}
use Rattle.std.proofs.lemmas.List.{length-set, get_or-set_same, get_or-set_other, take-append-le, drop-append-le}
use Rattle.std.proofs.lemmas.List.{take_more, drop_more, take_all}
use Rattle.std.proofs.lemmas.List.Elements.{All-from_get_or, Contains-append_left, Contains-get_or, Contains-push_cases}
use Rattle.am_lit.specs.Literal.{opposite_of}
use Rattle.am_lit.specs.UnitRow.{IsSettled}
use Rattle.am_lit.proofs.Laws.{same_or, member_or, Contains-head, Contains-tail}
use Rattle.am_trail.specs.declared.entry.Entry.{Entry}
use Rattle.am_trail.specs.Trails.{Assigned, IsTrail, literals}
use Rattle.am_watch.specs.declared.watcher.Watcher.{Watcher}
use Rattle.am_watch.specs.declared.watcher.Pair.{Pair}
use Rattle.am_watch.specs.Pairs.{IsPairOf, pair_at}
use Rattle.am_watch.specs.Lists.{list_at, IsListed}
use Rattle.am_watch.specs.inside.Rows.{IsLonger, IsShorter}
use Rattle.am_watch.specs.Watching.{clause_at, IsTrueUpTo, IsGuarded, IsSafe, IsWatcher, KeepsWatches, IsTrueIn}
use Rattle.am_lit.proofs.Laws.{opposite_of-opposite_of}
use Rattle.am_trail.proofs.Laws.{entry_of, level_le, literal_in}
use Rattle.am_watch.proofs.Parts.{Contains-take}
use Rattle.am_watch.proofs.Still.{all_still, kept_still}

-- a literal that isn't false is guarded
pub guarded_open : (t : Assigned) (c : List ℕ) (l : ℕ) → ¬ (Contains (literals t.entries) (opposite_of l))
    → IsGuarded t c l
guarded_open t c l open' e there is = absurd
    (open' (rw is at (literal_in t.entries e (Contains-take t.head t.entries e there))))

-- a true clause is true on a level up to the current one
pub true_up_to : (t : Assigned) (c : List ℕ) → IsTrail t → IsTrueIn t.entries c → IsTrueUpTo t.entries c t.level
true_up_to t c trail h =
    let e = entry_of t.entries h.0 h.2 in
    (e.0, e.1, rw (← e.2) at h.1, level_le 0 t.entries t.level trail.leads e.0 e.1)

-- in a true clause a literal of the current level is guarded
pub guarded_current : (t : Assigned) (c : List ℕ) (l : ℕ) → IsTrail t → IsTrueIn t.entries c
    → ((e : Entry) → Contains t.entries e → e.literal ≡ opposite_of l → t.level ≡ e.level) → IsGuarded t c l
guarded_current t c l trail h at e there is =
    let up = true_up_to t c trail h in
    (up.0, up.1, up.2, omega (arith, up.3, at e (Contains-take t.head t.entries e there) is))

module _ (lists : List (List Watcher)) (pairs : List Pair) (fresh : List ℕ) (clauses : List (List ℕ)) (t : Assigned)
    (h : KeepsWatches lists pairs fresh clauses t) where
  -- one more watcher
  pub with_watcher : (l : ℕ) (w : Watcher) (new : List (List Watcher)) → IsLonger l w lists new
      → IsWatcher clauses pairs w → KeepsWatches new pairs fresh clauses t
  with_watcher l w new longer is = record {
    numbers = h.numbers;
    codes = longer.count ∙ h.codes;
    variables = h.variables;
    queued = h.queued;
    watchers = λ m x there. elim (longer.within m x there) [ inl old ↦ h.watchers m x old | inr e ↦ rw e is ];
    in_range = h.in_range;
    kept = λ i lt. all_still lists new t t (clause_at clauses i) i fresh (pair_at pairs i) (λ m a g. (more m i a, g))
        (λ up. up) (h.kept i lt);
  } where
    more : (m i : ℕ) → IsListed lists m i → IsListed new m i
    more m i k = (k.0, longer.keeps m k.0 k.1, k.2)

  -- another blocking literal for a watcher
  module _ (l j : ℕ) (w : Watcher) (code : l < length lists) (place : j < length (list_at lists l))
      (same : (d : Watcher) → (get_or (list_at lists l) j d).clause ≡ w.clause)
      (blocks : Contains (clause_at clauses w.clause) w.blocker) where
    abbrev pub row : List Watcher
    row = set (list_at lists l) j w

    row_now : list_at (set lists l row) l ≡ row
    row_now = get_or-set_same lists l row [] code

    still : (m i : ℕ) → IsListed lists m i → IsListed (set lists l row) m i
    still m i old = elim (same_or m l) [
      | inr ne ↦ rw (get_or-set_other lists l m row [] ne) old
      | inl e ↦
          let there = rw e at old.1 in
          rw (e, row_now) (elim (same_or there.0 j) [
            | inl at ↦ (
              w,
              (
                j,
                omega (arith, length-set (list_at lists l) j w),
                get_or-set_same (list_at lists l) j w w place,
              ),
              sym (same old.0)
                  ∙ ap (λ k. (get_or (list_at lists l) k old.0).clause) (sym at)
                  ∙ ap (λ (x : Watcher). x.clause) there.2
                  ∙ old.2,
            )
            | inr apart ↦ (
              old.0,
              (
                there.0,
                omega (arith, there.1, length-set (list_at lists l) j w),
                get_or-set_other (list_at lists l) j there.0 w old.0 apart ∙ there.2,
              ),
              old.2,
            )
          ])
    ]

    watcher_now : IsWatcher clauses pairs w
    watcher_now =
        let old = h.watchers l (get_or (list_at lists l) j w) (Contains-get_or (list_at lists l) j w place) in
        record { number = rw (same w) at old.number; blocker = blocks; pair = rw (same w) at old.pair }

    -- a watcher with another blocker, which is a literal of its clause, keeps the invariant
    pub with_blocker : KeepsWatches (set lists l row) pairs fresh clauses t
    with_blocker = record {
      numbers = h.numbers;
      codes = length-set lists l row ∙ h.codes;
      variables = h.variables;
      queued = h.queued;
      watchers = λ m x there. elim (same_or m l) [
        | inr ne ↦ h.watchers m x (rw (get_or-set_other lists l m row [] ne) at there)
        | inl e ↦
            let in_row = rw (e, row_now) at there in
            elim (same_or in_row.0 j) [
              | inl at ↦ let is : w ≡ x = sym (get_or-set_same (list_at lists l) j w x place)
                  ∙ ap (λ k. get_or row k x) (sym at) ∙ in_row.2 in rw (← is) watcher_now
              | inr apart ↦ h.watchers l x (
                in_row.0,
                omega (arith, in_row.1, length-set (list_at lists l) j w),
                sym (get_or-set_other (list_at lists l) j in_row.0 w x apart) ∙ in_row.2,
              )
            ]
      ];
      in_range = h.in_range;
      kept = λ i lt. all_still lists (set lists l row) t t (clause_at clauses i) i fresh (pair_at pairs i)
          (λ m a g. (still m i a, g)) (λ up. up) (h.kept i lt);
    }

  -- another pair for a clause
  pub with_pair : (i : ℕ) (p : Pair) → i < length clauses → IsPairOf (clause_at clauses i) p → Contains fresh i
      ⊎ IsSafe lists t (clause_at clauses i) i p → KeepsWatches lists (set pairs i p) fresh clauses t
  with_pair i p lt is kept = record {
    numbers = length-set pairs i p ∙ h.numbers;
    codes = h.codes;
    variables = h.variables;
    queued = h.queued;
    watchers = λ m x there.
        let w = h.watchers m x there in
        record { number = w.number; blocker = w.blocker; pair = pair_of x.clause w.pair };
    in_range = h.in_range;
    kept = λ k lk. kept_of k (h.kept k lk);
  } where
    none : Pair
    none = record { first = 0; second = 0 }

    in_pairs : i < length pairs
    in_pairs = omega (arith, h.numbers)

    pair_of : (k : ℕ) → IsPairOf (clause_at clauses k) (pair_at pairs k)
        → IsPairOf (clause_at clauses k) (pair_at (set pairs i p) k)
    pair_of k old = elim (same_or k i) [
      | inl e ↦ rw (e, get_or-set_same pairs i p none in_pairs) is
      | inr ne ↦ rw (get_or-set_other pairs i k p none ne) old
    ]

    kept_of : (k : ℕ) → Contains fresh k ⊎ IsSafe lists t (clause_at clauses k) k (pair_at pairs k) → Contains fresh k
        ⊎ IsSafe lists t (clause_at clauses k) k (pair_at (set pairs i p) k)
    kept_of k old = elim (same_or k i) [
      | inl e ↦ rw (e, get_or-set_same pairs i p none in_pairs) kept
      | inr ne ↦ rw (get_or-set_other pairs i k p none ne) old
    ]

  -- a watcher of a clause that is watched elsewhere goes
  pub without_watcher : (l j i : ℕ) (new : List (List Watcher)) → IsShorter l j lists new
      → ((d : Watcher) → (get_or (list_at lists l) j d).clause ≡ i)
      → (pair_at pairs i).first ≢ l → (pair_at pairs i).second ≢ l → KeepsWatches new pairs fresh clauses t
  without_watcher l j i new shorter at first second = record {
    numbers = h.numbers;
    codes = shorter.count ∙ h.codes;
    variables = h.variables;
    queued = h.queued;
    watchers = λ m x there. elim (same_or m l) [
      | inl e ↦ h.watchers l x (shorter.within x (rw e at there))
      | inr ne ↦ h.watchers m x (rw (shorter.others m ne) at there)
    ];
    in_range = h.in_range;
    kept = λ k lt. kept_still lists new t t (clause_at clauses k) k fresh (pair_at pairs k)
        (λ a g. (still (pair_at pairs k).first k a (λ e same. first (rw e at same)), g))
        (λ a g. (still (pair_at pairs k).second k a (λ e same. second (rw e at same)), g))
        (λ up. up) (h.kept k lt);
  } where
    still : (m k : ℕ) → IsListed lists m k → (k ≡ i → m ≢ l) → IsListed new m k
    still m k old apart = elim (same_or m l) [
      | inr ne ↦ rw (shorter.others m ne) old
      | inl e ↦ elim (shorter.keeps old.0 (rw e at old.1)) [
        | inl there ↦ (old.0, rw e there, old.2)
        | inr gone ↦ absurd (apart (sym old.2 ∙ ap (λ (x : Watcher). x.clause) (gone old.0) ∙ at old.0) e)
      ]
    ]

  -- a clause that is watched isn't fresh any more
  pub without_fresh : (i : ℕ) (new : List ℕ) → ((x : ℕ) → Contains fresh x → Contains new x ⊎ (x ≡ i))
      → ((x : ℕ) → Contains new x → Contains fresh x)
      → IsSafe lists t (clause_at clauses i) i (pair_at pairs i) → KeepsWatches lists pairs new clauses t
  without_fresh i new keeps within watched = record {
    numbers = h.numbers;
    codes = h.codes;
    variables = h.variables;
    queued = h.queued;
    watchers = h.watchers;
    in_range = λ k there. h.in_range k (within k there);
    kept = λ k lt. elim (h.kept k lt) [
      | inl f ↦ elim (keeps k f) [ inl there ↦ inl there | inr e ↦ inr (rw e watched) ]
      | inr w ↦ inr w
    ];
  }

  -- the trail grows by an entry of its level
  pub with_entry : (e : Entry) → e.level ≡ t.level → t.head ≤ length t.entries
      → KeepsWatches lists pairs fresh clauses (record t { entries = t.entries ++ e ∷ [] })
  with_entry e at le = record {
    numbers = h.numbers;
    codes = h.codes;
    variables = h.variables;
    queued = λ x there. elim (Contains-push_cases (drop t.head t.entries) e x
        (rw (drop-append-le t.head t.entries (e ∷ []) le) at there)) [
          | inl old ↦ h.queued x old
          | inr same ↦ rw (← same) at
        ];
    watchers = h.watchers;
    in_range = h.in_range;
    kept = λ i lt. all_still lists lists t (record t { entries = t.entries ++ e ∷ [] }) (clause_at clauses i) i fresh
        (pair_at pairs i) (λ l a g. (a, guarded (clause_at clauses i) l g))
        (λ up. (up.0, Contains-append_left t.entries (e ∷ []) up.0 up.1, up.2, up.3)) (h.kept i lt);
  } where
    guarded : (c : List ℕ) (l : ℕ) → IsGuarded t c l → IsGuarded (record t { entries = t.entries ++ e ∷ [] }) c l
    guarded c l g x there is =
        let old = g x (rw (take-append-le t.head t.entries (e ∷ []) le) at there) is in
        (old.0, Contains-append_left t.entries (e ∷ []) old.0 old.1, old.2, old.3)

  -- the entry at the head is passed, where all watchers of its opposite have true clauses
  pub passed : (p : ℕ) (d : Entry) → IsTrail t → t.head < length t.entries
      → (get_or t.entries t.head d).literal ≡ opposite_of p
      → ((x : Watcher) → Contains (list_at lists p) x → IsTrueIn t.entries (clause_at clauses x.clause))
      → KeepsWatches lists pairs fresh clauses (record t { head = t.head + 1 })
  passed p d trail lt at done = record {
    numbers = h.numbers;
    codes = h.codes;
    variables = h.variables;
    queued = λ x there. h.queued x (rw (drop_more t.entries t.head d lt)
        (Contains-tail here (drop (t.head + 1) t.entries) x there));
    watchers = h.watchers;
    in_range = h.in_range;
    kept = λ i li. all_still lists lists t (record t { head = t.head + 1 }) (clause_at clauses i) i fresh
        (pair_at pairs i) (λ l a g. (a, guarded i l a g)) (λ up. up) (h.kept i li);
  } where
    here : Entry
    here = get_or t.entries t.head d

    current : here.level ≡ t.level
    current = h.queued here (rw (drop_more t.entries t.head d lt) (Contains-head here (drop (t.head + 1) t.entries)))

    guarded : (i l : ℕ) → IsListed lists l i → IsGuarded t (clause_at clauses i) l
        → IsGuarded (record t { head = t.head + 1 }) (clause_at clauses i) l
    guarded i l listed g x there is = elim (Contains-push_cases (take t.head t.entries) here x
        (rw (take_more t.entries t.head d lt) at there)) [
          | inl old ↦ g x old is
          | inr same ↦
              let other : p ≡ l = sym (opposite_of-opposite_of p)
              ∙ ap opposite_of (sym at ∙ ap (λ (e : Entry). e.literal) same ∙ is) ∙ opposite_of-opposite_of l in
              let true' = done listed.0 (rw other listed.1) in
              let up = true_up_to t (clause_at clauses i) trail (rw listed.2 at true') in
              (up.0, up.1, up.2, omega (arith, up.3, current, ap (λ (e : Entry). e.level) same))
        ]

  -- where all is passed and each fresh clause is true, each clause is settled
  pub all_settled : IsTrail t → t.head ≡ length t.entries
      → ((i : ℕ) → Contains fresh i → IsTrueIn t.entries (clause_at clauses i))
      → All (IsSettled (literals t.entries)) clauses
  all_settled trail end true' = All-from_get_or (IsSettled (literals t.entries)) clauses []
      (λ i lt. elim (h.kept i lt) [
        | inl f ↦ inl (true' i f)
        | inr safe ↦ elim safe [
          | inl k ↦ settled (clause_at clauses i) (pair_at pairs i) k.pair k.first_guarded k.second_guarded
          | inr up ↦ inl (up.0.literal, up.2, literal_in t.entries up.0 up.1)
        ]
      ]) where
        row : List ℕ
        row = literals t.entries

        -- a watched literal that is false has a true one beside it
        beside : (c : List ℕ) (l : ℕ) → IsGuarded t c l → Contains row (opposite_of l) → IsSettled row c
        beside c l g false' =
            let e = entry_of t.entries (opposite_of l) false' in
            let up = g e.0 (rw (end, take_all (length t.entries) t.entries (omega arith)) e.1) e.2 in
            inl (up.0.literal, up.2, literal_in t.entries up.0 up.1)

        settled : (c : List ℕ) (p : Pair) → IsPairOf c p → IsGuarded t c p.first → IsGuarded t c p.second
            → IsSettled row c
        settled c p is g k = elim (member_or row (opposite_of p.first)) [
          | inl f ↦ beside c p.first g f
          | inr first_open ↦ elim (member_or row (opposite_of p.second)) [
            | inl f ↦ beside c p.second k f
            | inr second_open ↦ elim (member_or row p.first) [
              | inl y ↦ inl (p.first, is.first, y)
              | inr no_first ↦ elim (member_or row p.second) [
                | inl y ↦ inl (p.second, is.second, y)
                | inr no_second ↦ inr (
                  p.first,
                  p.second,
                  is.first,
                  is.second,
                  is.differ,
                  (no_first, first_open),
                  (no_second, second_open),
                )
              ]
            ]
          ]
        ]
