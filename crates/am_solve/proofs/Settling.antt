-- Clauses that are settled below a level.
use Rattle.std.proofs.Common.{ℕ, ◌≡◌, ◌≢◌, ◌+◌, ◌<◌, ◌≤◌, List, [], ◌∷◌, ◌++◌, All, map, inl, inr, arith}
use Rattle.std.specs.Prelude.{Contains}
use Rattle.std.proofs.lemmas.List.Elements.{All-push, All-contains}
use Rattle.am_lit.specs.Literal.{opposite_of}
use Rattle.am_lit.specs.Clause.{NoVariableTwice}
use Rattle.am_lit.specs.UnitRow.{IsFree, IsSettled, IsNew, IsConsistent, without}
use Rattle.am_lit.proofs.Laws.{new_by_settled, same_or}
use Rattle.am_trail.specs.declared.entry.Entry.{Entry}
use Rattle.am_trail.specs.Trails.{literals, Assigned, Leads, upto}
use Rattle.am_trail.proofs.Laws.{upto-all, upto-more, upto-upto}
use Rattle.am_watch.specs.Watching.{Extends}
use Rattle.am_solve.specs.inside.Searching.{SettledBelow}

-- a decision, after which every clause was settled
pub settled_decide : (clauses : List (List ℕ)) (es : List Entry) (level : ℕ) (e : Entry) → Leads 0 es level
    → e.level ≡ level + 1
    → SettledBelow clauses es level → All (IsSettled (literals es)) clauses
    → SettledBelow clauses (es ++ e ∷ []) (level + 1)
settled_decide clauses es level e leads at below now = λ i lt.
    rw (upto-more i es (e ∷ []) (one i e (omega arith))) (elim (same_or i level) [
      | inl same ↦ rw (upto-all i 0 es level leads (omega arith)) now
      | inr other ↦ below i (omega arith)
    ]) where
      one : (i : ℕ) (e : Entry) → i < e.level → All (λ x. i < x.level) (e ∷ [])
      one i e lt = All-push (λ (x : Entry). i < x.level) [] e (λ k d in'. absurd (omega arith)) lt

-- propagation
pub settled_extends : (clauses : List (List ℕ)) (t u : Assigned) → Extends clauses t u
    → SettledBelow clauses t.entries t.level
    → SettledBelow clauses u.entries u.level
settled_extends clauses t u x below = λ i lt.
    rw (
      x.begins,
      upto-more i t.entries x.more (λ k d lk. let at = (x.implied k d lk).1 in omega (arith, at, x.level, lt)),
    )
    (below i (omega (arith, x.level)))

-- a return to a level
pub settled_back : (clauses : List (List ℕ)) (es : List Entry) (level j : ℕ) → j ≤ level → SettledBelow clauses es level
    → SettledBelow clauses (upto j es) j
settled_back clauses es level j le below = λ i lt. rw (upto-upto i j es (omega arith)) (below i (omega arith))

-- a learnt clause that has two literals without a value on each lower level
pub settled_learn : (clauses : List (List ℕ)) (c : List ℕ) (es : List Entry) (j l m : ℕ) → Contains c l → Contains c m
    → l ≢ m
    → ((i : ℕ) → i < j → IsFree (literals (upto i es)) l × IsFree (literals (upto i es)) m) → SettledBelow clauses es j
    → SettledBelow (clauses ++ c ∷ []) es j
settled_learn clauses c es j l m hl hm ne free below = λ i lt.
    All-push (IsSettled (literals (upto i es))) clauses c (below i lt)
    (inr (l, m, hl, hm, ne, (free i lt).0, (free i lt).1))

-- a clause is new whose literals but one are false below the current level, while that one has no value there
pub new_at_level : (clauses : List (List ℕ)) (c : List ℕ) (es : List Entry) (level l : ℕ)
    → IsConsistent (literals (upto level es)) → SettledBelow clauses es (level + 1)
    → NoVariableTwice c → Contains c l → All (Contains (literals (upto level es))) (map opposite_of (without l c))
    → ¬ (Contains (literals (upto level es)) l)
    → IsNew clauses c
new_at_level clauses c es level l consistent below apart there lower absent =
    new_by_settled clauses (literals (upto level es)) consistent (below level (omega arith)) c l apart there
    lower absent

-- a false clause has a literal of the current level
pub reaches_level : (row low c : List ℕ) → ((m : ℕ) → Contains row m → Contains row (opposite_of m) → ⊥)
    → All (Contains row) low → IsSettled low c → All (λ m. Contains row (opposite_of m)) c
    → (l : ℕ) × Contains c l × IsFree low l
reaches_level row low c consistent low_in (inl t) false_there =
    absurd
    (consistent t.0 (All-contains (Contains row) low t.0 low_in t.2)
    (All-contains (λ m. Contains row (opposite_of m)) c t.0 false_there t.1))
reaches_level row low c consistent low_in (inr t) false_there = (t.0, t.2, t.5)
