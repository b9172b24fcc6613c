-- A learnt clause adds to what unit propagation finds.
use Rattle.std.proofs.Common.{ℕ, ◌≡◌, ◌≢◌, ◌+◌, ◌<◌, ◌≤◌, Bool, true, false, not, eqb, List, [], ◌∷◌, ◌++◌, All, get_or}
use Rattle.std.proofs.Common.{take, map, ap, inl, inr, arith}
use Rattle.std.specs.Prelude.{Contains, ◌⊎◌}
use Rattle.std.proofs.lemmas.Bool.{eq-eqb}
use Rattle.std.proofs.lemmas.List.Elements.{All-contains, All-contains_itself, All-filter, All-map, All-weaker}
use Rattle.std.proofs.lemmas.List.Elements.{Contains-get_or, filter_passes}
use Rattle.am_lit.specs.Literal.{variable_of, opposite_of}
use Rattle.am_lit.specs.Clause.{NoVariableTwice}
use Rattle.am_lit.specs.UnitRow.{IsConsistent, IsFree, IsNew, without}
use Rattle.am_chain.specs.declared.chain.Step.{Step}
use Rattle.am_trail.specs.declared.entry.Entry.{Entry}
use Rattle.am_trail.specs.Trails.{literals, upto}
use Rattle.am_watch.specs.Watching.{IsFalseAt}
use Rattle.am_watch.proofs.Laws.{Contains-take}
use Rattle.am_trail.proofs.Laws.{entry_of, literal_in}
use Rattle.am_solve.proofs.Deriving.{IsApart, in_take, place_in}
use Rattle.am_trail.proofs.Laws.{from_upto, in_upto}
use Rattle.am_solve.specs.inside.Marking.{IsUnique}
use Rattle.am_solve.specs.inside.Searching.{SettledBelow}
use Rattle.am_trail.proofs.Laws.{upto-upto}
use Rattle.am_solve.proofs.Settling.{new_at_level, settled_back, settled_learn}
use Rattle.am_lit.proofs.Laws.{opposite_of-opposite_of}

from_without : (l : ℕ) (c : List ℕ) (m : ℕ) → Contains (without l c) m → Contains c m × (m ≢ l)
from_without l c m h =
    let p = λ (x : ℕ). not (eqb x l) in (
      All-contains (Contains c) (without l c) m (All-filter p (Contains c) c (All-contains_itself c)) h,
      λ e.
          let t : not (eqb m l) ≡ true =
          All-contains (λ x. not (eqb x l) ≡ true) (without l c) m (filter_passes p c) h in
          differs (eqb m l) (eq-eqb m l e) t,
    ) where
      differs : (b : Bool) → b ≡ true → not b ≡ true → ⊥
      differs true e f = let clash : false ≡ true = f in cc
      differs false e f = cc

module _ (clauses : List (List ℕ)) (es : List Entry) (level start first : ℕ) (marks : List Bool) (kept : List ℕ)
    (steps : List Step) (place : ℕ)
    (u : IsUnique clauses (literals es) start first marks kept steps place) (consistent : IsConsistent (literals es))
    (low_is : literals (upto level es) ≡ take start (literals es)) (c : List ℕ)
    (from : (m : ℕ) → Contains c m → Contains kept m ⊎ (m ≡ opposite_of (get_or (literals es) place 0)))
    (here : Contains c (opposite_of (get_or (literals es) place 0))) where
  abbrev left : ℕ
  left = opposite_of (get_or (literals es) place 0)

  -- a kept literal is false below the level
  pub low_false : (m : ℕ) → Contains kept m → Contains (literals (upto level es)) (opposite_of m)
  low_false m h =
      let k = u.keeps.has m h in
      rw (low_is, k.3, opposite_of-opposite_of (get_or (literals es) k.0 0))
      (in_take (literals es) start k.0 k.1 (omega (arith, u.high, u.inside, k.1)))

  -- the literal that is left has no value there
  absent : ¬ (Contains (literals (upto level es)) left)
  absent h =
      let there : Contains (literals es) left = Contains-take start (literals es) left (rw low_is at h) in
      consistent (get_or (literals es) place 0) (Contains-get_or (literals es) place 0 u.inside) there

  consistent_low : IsConsistent (literals (upto level es))
  consistent_low l a b =
      consistent l (Contains-take start (literals es) l (rw low_is at a))
      (Contains-take start (literals es) (opposite_of l) (rw low_is at b))

  others_false : All (Contains (literals (upto level es))) (map opposite_of (without left c))
  others_false = All-map (Contains (literals (upto level es))) opposite_of (without left c)
      (All-weaker (Contains (without left c)) (λ m. Contains (literals (upto level es)) (opposite_of m))
      (λ m h. let w = from_without left c m h in elim (from m w.0) [ inl k ↦ low_false m k | inr e ↦ absurd (w.1 e) ])
      (without left c) (All-contains_itself (without left c)))

  -- the clause of a conflict adds something to unit propagation
  pub unique_new : NoVariableTwice c → SettledBelow clauses es (level + 1) → IsNew clauses c
  unique_new apart below = new_at_level clauses c es level left consistent_low below apart here others_false absent

  -- the literal that is left stands nowhere below the level
  left_free : IsApart (literals es) → IsFree (literals (upto level es)) left
  left_free distinct = (
    absent,
    λ h.
        let k =
        place_in (literals es) start (get_or (literals es) place 0)
        (rw (low_is, opposite_of-opposite_of (get_or (literals es) place 0)) at h) in
        let same : k.0 ≡ place = distinct k.0 place k.2 u.inside (ap variable_of k.3) in
        omega (arith, k.1, same, u.high),
  )

  lower : (i x : ℕ) → i ≤ level → Contains (literals (upto i es)) x → Contains (literals (upto level es)) x
  lower i x le h =
      let e = entry_of (upto i es) x h in
      let f = from_upto i es e.0 e.1 in
      rw (← e.2) (literal_in (upto level es) e.0 (in_upto level es e.0 f.0 (omega (arith, f.1))))

  -- after going back to the greatest level of the kept literals, each clause, and the learnt one, is
  -- settled below that level
  pub settled_after : IsApart (literals es) → SettledBelow clauses es (level + 1) → (j m : ℕ) → j ≤ level
      → Contains kept m → Contains c m → IsFalseAt es j m
      → SettledBelow (clauses ++ c ∷ []) (upto j es) j
  settled_after distinct below j m le in_kept in_c at =
      settled_learn clauses c (upto j es) j left m here in_c differs free
      (settled_back clauses es (level + 1) j (omega arith) below) where
        differs : left ≢ m
        differs e = (left_free distinct).1 (rw (← e) at (low_false m in_kept))

        free : (i : ℕ) → i < j → IsFree (literals (upto i (upto j es))) left × IsFree (literals (upto i (upto j es))) m
        free i lt = rw (upto-upto i j es (omega arith)) (
          (
            λ h. (left_free distinct).0 (lower i left (omega arith) h),
            λ h. (left_free distinct).1 (lower i (opposite_of left) (omega arith) h),
          ),
          (
            λ h. consistent_low m (lower i m (omega arith) h) (low_false m in_kept),
            λ h.
                let e = entry_of (upto i es) (opposite_of m) h in
                let f = from_upto i es e.0 e.1 in
                let level_is = at e.0 f.0 e.2 in
                omega (arith, f.1, level_is, lt),
          ),
        )
