-- Which entries were implied, and where the literals of a level stand.
use Rattle.std.proofs.Common.{ℕ, ◌≡◌, ◌<◌, ◌≤◌, suc, zero, List, [], ◌∷◌, All, length, get_or, take, sym, ap, ◌∙◌, inl}
use Rattle.std.proofs.Common.{inr, arith}
use Rattle.std.specs.Prelude.{Contains, IsSome}
use Rattle.std.proofs.lemmas.List.{take-map, get_or_default}
use Rattle.std.proofs.lemmas.List.Elements.{All-contains, Contains-get_or}
use Rattle.am_lit.specs.Literal.{opposite_of}
use Rattle.am_lit.proofs.Laws.{Contains-cons_cases, Contains-nil}
use Rattle.am_lit.specs.UnitRow.{IsConsistent, IsSettled}
use Rattle.am_trail.specs.declared.entry.Entry.{Entry}
use Rattle.am_trail.specs.Trails.{literals, IsNextEntry, Leads, upto}
use Rattle.am_trail.proofs.Laws.{next_at, rises_to}
use Rattle.am_watch.proofs.Laws.{Contains-take}
use Rattle.am_trail.proofs.Laws.{level_le}
use Rattle.am_solve.proofs.Settling.{reaches_level}
use Rattle.am_solve.proofs.Deriving.{in_take}
use native.Mathlib.Decide.{dec_lt}
use Prim.{yes, no}
use Rattle.am_lit.proofs.Laws.{opposite_of-opposite_of}

implied_by : (from : ℕ) (e : Entry) (level : ℕ) → IsNextEntry from e → level ≤ from → e.level ≤ level → IsSome e.reason
implied_by from e level (inl n) lo hi = absurd (omega (arith, n.1))
implied_by from e level (inr n) lo hi = n.0

-- the entries of the last level, but for the first one, were implied
pub implied_above : (es : List Entry) (level start : ℕ) → Leads 0 es level
    → ((k : ℕ) (d : Entry) → start ≤ k → k < length es → level ≤ (get_or es k d).level) → (k : ℕ) (d : Entry)
    → start < k → k < length es
    → IsSome (get_or es k d).reason
implied_above es level start leads above zero d lt inside = absurd (omega arith)
implied_above es level start leads above (suc k) d lt inside =
    implied_by (get_or es k d).level (get_or es (suc k) d) level (next_at 0 es level k d leads inside)
    (above k d (omega arith) (omega arith))
    (level_le 0 es level leads (get_or es (suc k) d) (Contains-get_or es (suc k) d inside))

-- the literals below a level are the first ones
pub low_literals : (es : List Entry) (level start : ℕ) → take start es ≡ upto level es
    → literals (upto level es) ≡ take start (literals es)
low_literals es level start is = ap literals (sym is) ∙ sym (take-map (λ (e : Entry). e.literal) start es)

-- a false clause that the lower levels settle reaches the last level
pub reaches : (row c : List ℕ) (start : ℕ) → IsConsistent row → IsSettled (take start row) c
    → All (λ m. Contains row (opposite_of m)) c
    → (k : ℕ) × (start ≤ k) × (k < length row) × Contains c (opposite_of (get_or row k 0))
reaches row c start consistent settled false' =
    let some = reaches_level row (take start row) c consistent (taken row start) settled false' in
    let there = All-contains (λ m. Contains row (opposite_of m)) c some.0 false' some.1 in
    let at : get_or row there.0 0 ≡ opposite_of some.0 =
    get_or_default row there.0 0 (opposite_of some.0) there.1 ∙ there.2 in
    elim (dec_lt there.0 start) [
      | yes low ↦ absurd (some.2.1 (rw at at (in_take row start there.0 low there.1)))
      | no high ↦ (there.0, omega arith, there.1, rw (at, opposite_of-opposite_of some.0) some.1)
    ] where
      taken : (row : List ℕ) (n : ℕ) → All (Contains row) (take n row)
      taken row n = λ k d lt. Contains-take n row (get_or (take n row) k d) (Contains-get_or (take n row) k d lt)

implied_next : (from : ℕ) (x : Entry) (to : ℕ) → IsNextEntry from x → x.level ≤ to → to ≤ from → IsSome x.reason
implied_next from x to (inl n) hi le = absurd (omega (arith, n.1))
implied_next from x to (inr n) hi le = n.0

-- where a trail leads to no higher level, all its entries were implied
pub all_implied : (from : ℕ) (es : List Entry) (to : ℕ) → Leads from es to → to ≤ from → (e : Entry) → Contains es e
    → IsSome e.reason
all_implied from [] to h le e there = absurd (Contains-nil e there)
all_implied from (x ∷ xs) to h le e there =
    let here : IsSome x.reason = implied_next from x to h.0 (rises_to x.level xs to h.1) le in
    elim (Contains-cons_cases x xs e there) [
      | inl same ↦ rw (← same) here
      | inr t ↦ all_implied x.level xs to h.1 (below_level from x to h.0 le) e t
    ] where
      below_level : (from : ℕ) (x : Entry) (to : ℕ) → IsNextEntry from x → to ≤ from → to ≤ x.level
      below_level from x to (inl n) le = omega (arith, n.1)
      below_level from x to (inr n) le = omega (arith, n.1)
