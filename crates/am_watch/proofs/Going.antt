-- Steps of a trail keep the watches: decisions, implications and returns.
use Rattle.std.proofs.Common.{ℕ, ◌≡◌, ◌+◌, ◌<◌, ◌≤◌, List, [], ◌∷◌, length, get_or, take, drop, sym, ap, subst, refl}
use Rattle.std.proofs.Common.{◌∙◌, inl, inr, arith, length-take, length-drop}
use Rattle.std.specs.Prelude.{Contains, min, None, Some}
use Rattle.std.proofs.lemmas.List.{take-append-le, drop-append-le, drop_all, get_or-take, get_or-drop}
use Rattle.std.proofs.lemmas.List.Elements.{Contains-append_left, Contains-push_cases}
use Rattle.am_lit.proofs.Laws.{Contains-nil}
use Rattle.am_trail.specs.declared.entry.Entry.{Entry}
use Rattle.am_trail.specs.Trails.{Assigned, IsTrail, decided, implied, returned, upto}
use Rattle.am_trail.proofs.Laws.{from_upto, in_upto, upto-take}
use Rattle.am_watch.specs.declared.watcher.Watcher.{Watcher}
use Rattle.am_watch.specs.declared.watcher.Pair.{Pair}
use Rattle.am_watch.specs.Pairs.{pair_at}
use Rattle.am_watch.proofs.Keeping.{with_entry}
use Rattle.am_watch.proofs.Parts.{Contains-drop, Contains-take}
use Rattle.am_watch.proofs.Still.{all_still}
use Rattle.am_watch.specs.Watching.{clause_at, WatchesHold, KeepsWatches, IsGuarded, Watched}

keeps_decide : (lists : List (List Watcher)) (pairs : List Pair) (fresh : List ℕ) (clauses : List (List ℕ))
    (t : Assigned) (l : ℕ) → KeepsWatches lists pairs fresh clauses t → t.head ≡ length t.entries
    → KeepsWatches lists pairs fresh clauses (decided t l)
keeps_decide lists pairs fresh clauses t l h end = record {
  numbers = h.numbers;
  codes = h.codes;
  variables = h.variables;
  queued = λ x there. elim (Contains-push_cases (drop t.head t.entries) e x
      (rw (drop-append-le t.head t.entries (e ∷ []) le) at there)) [
        | inl old ↦ absurd (Contains-nil x (rw (drop_all t.head t.entries (omega arith)) at old))
        | inr same ↦ rw (← same) refl
      ];
  watchers = h.watchers;
  in_range = h.in_range;
  kept = λ i lt. all_still lists lists t (decided t l) (clause_at clauses i) i fresh (pair_at pairs i)
      (λ m a g. (a, guarded (clause_at clauses i) m g))
      (λ up. (up.0, Contains-append_left t.entries (e ∷ []) up.0 up.1, up.2, up.3)) (h.kept i lt);
} where
  e : Entry
  e = record { literal = l; level = t.level + 1; reason = None }

  le : t.head ≤ length t.entries
  le = omega arith

  guarded : (c : List ℕ) (m : ℕ) → IsGuarded t c m → IsGuarded (decided t l) c m
  guarded c m g x there is =
      let old = g x (rw (take-append-le t.head t.entries (e ∷ []) le) at there) is in
      (old.0, Contains-append_left t.entries (e ∷ []) old.0 old.1, old.2, old.3)

-- the places before the head, and those from it on, in a prefix
take_in : {X : Type 0} (xs : List X) (h n : ℕ) (x : X) → Contains (take (min h n) (take n xs)) x
    → Contains (take h xs) x
take_in xs h n x (k, lt, is) =
    let a = length-take (min h n) (take n xs) in
    let b = length-take n xs in
    let c = length-take h xs in
    let lo : k < min h n = omega arith in
    let hi : k < n = omega arith in
    let kh : k < h = omega arith in (
      k,
      omega arith,
      get_or-take h xs k x kh ∙ sym (get_or-take n xs k x hi)
          ∙ sym (get_or-take (min h n) (take n xs) k x lo) ∙ is,
    )

drop_in : {X : Type 0} (xs : List X) (h n : ℕ) (x : X) → Contains (drop (min h n) (take n xs)) x
    → Contains (drop h xs) x
drop_in xs h n x (k, lt, is) =
    let a = length-drop (min h n) (take n xs) in
    let b = length-take n xs in
    let c = length-drop h xs in
    let same : min h n ≡ h = omega arith in
    let hi : h + k < n = omega arith in (
      k,
      omega arith,
      get_or-drop h xs k x ∙ sym (get_or-take n xs (h + k) x hi) ∙ sym (get_or-drop h (take n xs) k x)
          ∙ ap (λ m. get_or (drop m (take n xs)) k x) (sym same) ∙ is,
    )

module _ (t : Assigned) (j : ℕ) (trail : IsTrail t) where
  prefix : upto j t.entries ≡ take (length (upto j t.entries)) t.entries
  prefix = upto-take j 0 t.entries t.level trail.leads

  taken : (e : Entry) → Contains (take (returned t j).head (returned t j).entries) e
      → Contains (take t.head t.entries) e
      × (e.level ≤ j)
  taken e there = (
    take_in t.entries t.head (length (upto j t.entries)) e
        (at_prefix (λ r. Contains (take (min t.head (length (upto j t.entries))) r) e) there),
    (from_upto j t.entries e (Contains-take (returned t j).head (returned t j).entries e there)).1,
  ) where
    at_prefix : (P : List Entry → Type 0) → P (upto j t.entries) → P (take (length (upto j t.entries)) t.entries)
    at_prefix P h = subst P prefix h

  dropped : (e : Entry) → Contains (drop (returned t j).head (returned t j).entries) e
      → Contains (drop t.head t.entries) e
      × (e.level ≤ j)
  dropped e there = (
    drop_in t.entries t.head (length (upto j t.entries)) e
        (at_prefix (λ r. Contains (drop (min t.head (length (upto j t.entries))) r) e) there),
    (from_upto j t.entries e (Contains-drop (returned t j).head (returned t j).entries e there)).1,
  ) where
    at_prefix : (P : List Entry → Type 0) → P (upto j t.entries) → P (take (length (upto j t.entries)) t.entries)
    at_prefix P h = subst P prefix h

keeps_back : (lists : List (List Watcher)) (pairs : List Pair) (fresh : List ℕ) (clauses : List (List ℕ))
    (t : Assigned) (j : ℕ) → KeepsWatches lists pairs fresh clauses t → IsTrail t → j ≤ t.level
    → KeepsWatches lists pairs fresh clauses (returned t j)
keeps_back lists pairs fresh clauses t j h trail le = record {
  numbers = h.numbers;
  codes = h.codes;
  variables = h.variables;
  queued = λ e there. let d = dropped t j trail e there in let at = h.queued e d.0 in omega (arith, d.1);
  watchers = h.watchers;
  in_range = h.in_range;
  kept = λ i lt. all_still lists lists t (returned t j) (clause_at clauses i) i fresh (pair_at pairs i)
      (λ l a g. (a, guarded (clause_at clauses i) l g))
      (λ up. (up.0, in_upto j t.entries up.0 up.1 (omega (arith, up.3)), up.2, up.3)) (h.kept i lt);
} where
  guarded : (c : List ℕ) (l : ℕ) → IsGuarded t c l → IsGuarded (returned t j) c l
  guarded c l g e there is =
      let d = taken t j trail e there in
      let old = g e d.0 is in
      (old.0, in_upto j t.entries old.0 old.1 (omega (arith, old.3, d.1)), old.2, old.3)

-- a decision keeps the invariant, where the head stands at the end
pub holds_decide : (w : Watched) (clauses : List (List ℕ)) (t : Assigned) (l : ℕ) → WatchesHold w clauses t
    → t.head ≡ length t.entries → WatchesHold w clauses (decided t l)
holds_decide w clauses t l h end = keeps_decide w.lists w.pairs w.fresh clauses t l h end

-- so does an implication, whatever clause is its reason
pub holds_imply : (w : Watched) (clauses : List (List ℕ)) (t : Assigned) (l reason : ℕ) → WatchesHold w clauses t
    → t.head ≤ length t.entries → WatchesHold w clauses (implied t l reason)
holds_imply w clauses t l reason h le =
    with_entry w.lists w.pairs w.fresh clauses t h (record { literal = l; level = t.level; reason = Some reason })
    refl le

-- so does a return to a level
pub holds_back : (w : Watched) (clauses : List (List ℕ)) (t : Assigned) (j : ℕ) → WatchesHold w clauses t → IsTrail t
    → j ≤ t.level → WatchesHold w clauses (returned t j)
holds_back w clauses t j h trail le = keeps_back w.lists w.pairs w.fresh clauses t j h trail le
