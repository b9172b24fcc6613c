-- The clause that an analysis finds: it is normal, derived, new, and over the decided variables.
use Rattle.std.proofs.Common.{ℕ, ◌≡◌, ◌+◌, ◌-◌, ◌<◌, ◌≤◌, List, [], ◌∷◌, ◌++◌, All, length, get_or, sym, ◌∙◌, inl, inr}
use Rattle.std.proofs.Common.{arith}
use Rattle.std.specs.Prelude.{Contains, ◌⊎◌, ◌↔◌, Ok, None, IsSome}
use Rattle.std.specs.List.Sorted.{IsStrictlyIncreasing}
use Rattle.std.proofs.lemmas.List.{length-map, get_or_default}
use Rattle.std.proofs.lemmas.List.Kept.{AllPairs-from_increasing}
use Rattle.std.proofs.lemmas.List.Elements.{All-contains, All-push, Contains-get_or, Contains-append_left}
use Rattle.std.proofs.lemmas.List.Elements.{Contains-append_cases, Contains-push, Contains-push_cases}
use Rattle.am_lit.specs.Literal.{variable_of, opposite_of}
use Rattle.am_lit.specs.Clause.{IsNormal}
use Rattle.am_lit.specs.UnitRow.{IsClauseOver, IsNew}
use Rattle.am_chain.specs.declared.chain.Step.{Step}
use Rattle.am_chain.specs.Chains.{clause_of}
use Rattle.am_trail.specs.declared.entry.Entry.{Entry}
use Rattle.am_trail.specs.Trails.{literals, Assigned, IsTrail, upto}
use Rattle.am_lit.proofs.Laws.{other_literal}
use Rattle.am_watch.specs.Watching.{Extends, IsFalseAt}
use Rattle.am_trail.proofs.Laws.{consistent, entry_of, from_upto}
use Rattle.am_solve.specs.inside.Marking.{IsAnalysedConflict, OpposesDecision}
use Rattle.am_solve.specs.inside.Searching.{KeepsTo, SettledBelow}
use Rattle.am_solve.proofs.Marked.{apart_of, none_there}
use Rattle.am_solve.proofs.Newness.{low_false, settled_after, unique_new}
use Rattle.am_solve.proofs.Unique.{chain_derives}
use Rattle.am_lit.proofs.Laws.{opposite_of-opposite_of, variable_of-opposite_of}

-- rising false literals of a trail are a normal clause
pub normal_false : (t : Assigned) → IsTrail t → (c : List ℕ) → IsStrictlyIncreasing c
    → ((m : ℕ) → Contains c m → Contains (literals t.entries) (opposite_of m))
    → IsNormal t.vars c
normal_false t trail c rises untrue = record {
  rising = rises;
  apart = λ i j d lt inside same.
      let less : get_or c i d < get_or c j d = AllPairs-from_increasing c rises i j d lt inside in
      let x = untrue (get_or c i d) (Contains-get_or c i d (omega arith)) in
      let y = untrue (get_or c j d) (Contains-get_or c j d inside) in
      let is : get_or c i d ≡ opposite_of (get_or c j d) =
      other_literal (get_or c j d) (get_or c i d) same (λ e. omega arith) in
      consistent t trail (opposite_of (get_or c j d)) y (rw is at x);
  below = λ k d lt.
      let there = untrue (get_or c k d) (Contains-get_or c k d lt) in
      let at : get_or (literals t.entries) there.0 0 ≡ opposite_of (get_or c k d) =
      get_or_default (literals t.entries) there.0 0 (opposite_of (get_or c k d)) there.1 ∙ there.2 in
      let low = trail.below there.0 (omega (arith, there.1, length-map t.entries (λ e. e.literal))) in
      rw (at, (variable_of-opposite_of (get_or c k d))) at low;
}

module _ (clauses : List (List ℕ)) (t : Assigned) (first : ℕ) (kept : List ℕ) (steps : List Step) (place : ℕ)
    (a : IsAnalysedConflict clauses t first kept steps place) (trail : IsTrail t) where
  abbrev left : ℕ
  left = opposite_of (get_or (literals t.entries) place 0)

  -- each kept literal is false
  pub kept_false : (m : ℕ) → Contains kept m → Contains (literals t.entries) (opposite_of m)
  kept_false m h =
      let k = a.unique.keeps.has m h in
      rw (k.3, opposite_of-opposite_of (get_or (literals t.entries) k.0 0))
      (Contains-get_or (literals t.entries) k.0 0 (omega (arith, k.1, a.unique.high, a.unique.inside)))

  -- the literal that is left is one of the trail's
  pub place_inside : place < length t.entries
  place_inside = omega (arith, a.unique.inside, length-map t.entries (λ e. e.literal))

  -- the clause of the kept literals and the one that is left
  module _ (c : List ℕ) (rises : IsStrictlyIncreasing c)
      (members : (m : ℕ) → Contains c m ↔ Contains (kept ++ left ∷ []) m) where
    from : (m : ℕ) → Contains c m → Contains kept m ⊎ (m ≡ left)
    from m h = elim (Contains-push_cases kept left m ((members m).0 h)) [ inl k ↦ inl k | inr e ↦ inr (sym e) ]

    here : Contains c left
    here = (members left).1 (Contains-push kept left)

    all : (m : ℕ) → Contains kept m → Contains c m
    all m h = (members m).1 (Contains-append_left kept (left ∷ []) m h)

    -- each literal of the clause is false
    pub clause_false : (m : ℕ) → Contains c m → Contains (literals t.entries) (opposite_of m)
    clause_false m h = elim (from m h) [
      | inl k ↦ kept_false m k
      | inr e ↦
          rw (e, opposite_of-opposite_of (get_or (literals t.entries) place 0))
          (Contains-get_or (literals t.entries) place 0 a.unique.inside)
    ]

    -- the clause is normal
    pub clause_normal : IsNormal t.vars c
    clause_normal = normal_false t trail c rises clause_false

    -- the chain derives the clause
    pub clause_derived : first < length clauses → clause_of clauses (record { first = first; steps = steps }) ≡ Ok c
    clause_derived lt =
        chain_derives clauses (literals t.entries) a.start first a.marks kept steps place a.unique c rises lt from
        here all

    -- the clause is new, where all clauses are settled below the current level
    pub clause_new : 0 < t.level → SettledBelow clauses t.entries t.level → IsNew clauses c
    clause_new lt below =
        let up : t.level - 1 + 1 ≡ t.level = omega arith in
        unique_new clauses t.entries (t.level - 1) a.start first a.marks kept steps place a.unique (consistent t trail)
        a.low c from here clause_normal.apart (rw up below)

    -- the level of a kept literal is below the current one
    pub level_low : (j m : ℕ) → 0 < t.level → Contains kept m → IsFalseAt t.entries j m → j ≤ t.level - 1
    level_low j m lt h at =
        let low =
        low_false clauses t.entries (t.level - 1) a.start first a.marks kept steps place a.unique
        (consistent t trail) a.low c from here m h in
        let e = entry_of (upto (t.level - 1) t.entries) (opposite_of m) low in
        let f = from_upto (t.level - 1) t.entries e.0 e.1 in
        let is : j ≡ e.0.level = at e.0 f.0 e.2 in
        omega (arith, f.1)

    -- all clauses are settled below the level to which the search goes back
    pub settled_there : (j : ℕ) → 0 < t.level → SettledBelow clauses t.entries t.level
        → ((m : ℕ) × Contains kept m × IsFalseAt t.entries j m) ⊎ ((kept ≡ []) × (j ≡ 0))
        → SettledBelow (clauses ++ c ∷ []) (upto j t.entries) j
    settled_there j lt below (inl m) =
        let up : t.level - 1 + 1 ≡ t.level = omega arith in
        settled_after clauses t.entries (t.level - 1) a.start first a.marks kept steps place a.unique
        (consistent t trail) a.low c from here (apart_of t trail) (rw up below) j m.0 (level_low j m.0 lt m.1 m.2)
        m.1 (all m.0 m.1) m.2
    settled_there j lt below (inr z) = λ i low. absurd (omega (arith, z.1))

    -- a clause of opposites of decided literals is over the variables that are decided
    pub clause_over : (base : List ℕ)
        → ((e : Entry) → Contains t.entries e → e.reason ≡ None → Contains base (variable_of e.literal))
        → All (OpposesDecision t.entries) kept → OpposesDecision t.entries left
        → IsClauseOver base c
    clause_over base decided all_kept one = λ k d lt.
        elim (from (get_or c k d) (Contains-get_or c k d lt)) [
          | inl h ↦ over (get_or c k d) (All-contains (OpposesDecision t.entries) kept (get_or c k d) all_kept h)
          | inr e ↦ rw e (over left one)
        ] where
          over : (m : ℕ) → OpposesDecision t.entries m → Contains base (variable_of m)
          over m h = rw (h.3, (variable_of-opposite_of h.0.literal)) (decided h.0 h.1 h.2)

-- the level to go back to is at most the current one
pub level_le : (t : Assigned) (kept : List ℕ) (j : ℕ)
    → ((m : ℕ) → Contains kept m → IsFalseAt t.entries j m → j ≤ t.level - 1)
    → ((m : ℕ) × Contains kept m × IsFalseAt t.entries j m) ⊎ ((kept ≡ []) × (j ≡ 0))
    → j ≤ t.level
level_le t kept j low (inl m) = let le = low m.0 m.1 m.2 in omega arith
level_le t kept j low (inr z) = omega (arith, z.1)

-- propagation decides nothing
pub keeps_extends : (base : List ℕ) (learnt clauses : List (List ℕ)) (t u : Assigned) → Extends clauses t u
    → KeepsTo base learnt t.entries
    → KeepsTo base learnt u.entries
keeps_extends base learnt clauses t u x k = record {
  over = k.over;
  decided = λ e there none. elim (Contains-append_cases t.entries x.more e (rw x.begins at there)) [
    | inl old ↦ k.decided e old none
    | inr new ↦
        absurd
        (none_there e.reason none
        (All-contains (λ (d : Entry). IsSome d.reason × (d.level ≡ t.level)) x.more e x.implied new).0)
  ];
}

-- a return to a level, and a learnt clause
pub keeps_back : (base : List ℕ) (learnt : List (List ℕ)) (es : List Entry) (j : ℕ) → KeepsTo base learnt es
    → KeepsTo base learnt (upto j es)
keeps_back base learnt es j k = record {
  over = k.over;
  decided = λ e there none. k.decided e (from_upto j es e there).0 none;
}

-- a learnt clause over the list keeps to it
pub keeps_learn : (base : List ℕ) (learnt : List (List ℕ)) (es : List Entry) (c : List ℕ) → IsClauseOver base c
    → KeepsTo base learnt es
    → KeepsTo base (learnt ++ c ∷ []) es
keeps_learn base learnt es c over k = record {
  over = All-push (IsClauseOver base) learnt c k.over over;
  decided = k.decided;
}
