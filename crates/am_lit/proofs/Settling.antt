-- Rows that settle clauses, and what solvers conclude from them.
use Rattle.std.proofs.Common.{ℕ, ◌≢◌, ◌<◌, ◌++◌, Bool, List, [], ◌∷◌, All, map, get_or, sym, ◌∙◌, inl, inr}
use Rattle.std.proofs.Common.{append_assoc}
use Rattle.std.specs.Prelude.{Contains, ◌⊎◌, IsTrue}
use Rattle.std.proofs.lemmas.List.{append-nil}
use Rattle.std.proofs.lemmas.List.Elements.{All-nil, All-cons, All-weaker, All-contains, All-contains_itself}
use Rattle.am_lit.specs.Literal.{opposite_of}
use Rattle.am_lit.specs.Clause.{NoVariableTwice}
use Rattle.am_lit.specs.Truth.{literal_value, AllHold, Satisfies}
use Rattle.am_lit.specs.UnitRow.{AllNew, Determines, IsConsistent, IsForcedBy, IsFree, IsNew, IsOutOfReach, IsSettled}
use Rattle.am_lit.specs.UnitRow.{IsUnitRow, MeetsConflict, without}
use Rattle.am_lit.proofs.Members.{same_or, member_or, Contains-head, Contains-tail}
use Rattle.am_lit.proofs.Truths.{clause_holds}
use Rattle.am_lit.proofs.Rows.{IsUnitRow-append, given_row}

forced_in : (small large c : List ℕ) (l : ℕ) → All (Contains large) small → IsForcedBy small c l → IsForcedBy large c l
forced_in small large c l sub f = (
  f.0,
  All-weaker (λ m. m ≢ l → Contains small (opposite_of m)) (λ m. m ≢ l → Contains large (opposite_of m))
      (λ m h ne. All-contains (Contains large) small (opposite_of m) sub (h ne)) c f.1,
)

module _ (clauses : List (List ℕ)) (large : List ℕ) (consistent : IsConsistent large)
    (settled : All (IsSettled large) clauses) where
  here : (c : List ℕ) → Contains clauses c → IsSettled large c
  here c h = All-contains (IsSettled large) clauses c settled h

  -- a consistent row that settles the clauses has each literal that they force from it
  forced_there : (c : List ℕ) (l : ℕ) → Contains clauses c → IsForcedBy large c l → Contains large l
  forced_there c l h f = go (here c h) where
    untrue : (m : ℕ) → Contains c m → m ≢ l → Contains large (opposite_of m)
    untrue m k ne = All-contains (λ q. q ≢ l → Contains large (opposite_of q)) c m f.1 k ne

    go : IsSettled large c → Contains large l
    go (inl t) = elim (same_or t.0 l) [
      | inl e ↦ rw (← e) t.2
      | inr ne ↦ absurd (consistent t.0 t.2 (untrue t.0 t.1 ne))
    ]
    go (inr t) = elim (same_or t.0 l) [
      | inl e ↦ absurd (t.6.1 (untrue t.1 t.3 (λ same. t.4 (e ∙ sym same))))
      | inr ne ↦ absurd (t.5.1 (untrue t.0 t.2 ne))
    ]

  no_conflict_there : (c : List ℕ) → Contains clauses c → ¬ (All (λ m. Contains large (opposite_of m)) c)
  no_conflict_there c h k = go (here c h) where
    go : IsSettled large c → ⊥
    go (inl t) = consistent t.0 t.2 (All-contains (λ q. Contains large (opposite_of q)) c t.0 k t.1)
    go (inr t) = t.5.1 (All-contains (λ q. Contains large (opposite_of q)) c t.0 k t.2)

  -- unit rows from literals of the row stay within it
  stays_within : (given : List ℕ) → All (Contains large) given → (row : List ℕ) → IsUnitRow clauses given row
      → All (Contains large) row
  stays_within given sub [] u = All-nil (Contains large)
  stays_within given sub (l ∷ row) u =
      let rest = stays_within given sub row u.1 in
      All-cons (Contains large) l row (elim u.0 [
        | inl g ↦ All-contains (Contains large) given l sub g
        | inr f ↦ forced_there f.0 l f.1 (forced_in row large f.0 l rest f.2)
      ]) rest

  out_of_reach : (given : List ℕ) (l : ℕ) → All (Contains large) given → ¬ (Contains large l)
      → IsOutOfReach clauses given l
  out_of_reach given l sub absent row u =
      let within = stays_within given sub row u in (
        (λ there. absent (All-contains (Contains large) row l within there)),
        (λ k. no_conflict_there k.0 k.1
            (All-weaker (λ m. Contains row (opposite_of m)) (λ m. Contains large (opposite_of m))
            (λ m h. All-contains (Contains large) row (opposite_of m) within h) k.0 k.2)),
      )

  -- a clause is new where the row makes all its literals but one false, and that one not true
  pub new_by_settled : (c : List ℕ) (l : ℕ) → NoVariableTwice c → Contains c l
      → All (Contains large) (map opposite_of (without l c)) → ¬ (Contains large l)
      → IsNew clauses c
  new_by_settled c l apart h sub absent = (apart, (l, h, out_of_reach (map opposite_of (without l c)) l sub absent))

-- unit rows from literals of a consistent row that settles the clauses stay within it, and meet
-- no conflict
pub closed_by_settled : (clauses : List (List ℕ)) (large given row : List ℕ) → IsConsistent large
    → All (IsSettled large) clauses → All (Contains large) given → IsUnitRow clauses given row
    → All (Contains large) row × (¬ (MeetsConflict clauses row))
closed_by_settled clauses large given row consistent settled sub u =
    let within = stays_within clauses large consistent settled given sub row u in (
      within,
      (λ k. no_conflict_there clauses large consistent settled k.0 k.1
          (All-weaker (λ m. Contains row (opposite_of m)) (λ m. Contains large (opposite_of m))
          (λ m h. All-contains (Contains large) row (opposite_of m) within h) k.0 k.2)),
    )

-- the literals of a clause up to a first one that isn't false, if there is one
first_open : (row c : List ℕ)
    → All (λ m. Contains row (opposite_of m)) c ⊎ ((l : ℕ) × Contains c l × (¬ (Contains row (opposite_of l))))
first_open row [] = inl (All-nil (λ m. Contains row (opposite_of m)))
first_open row (l ∷ ls) = elim (member_or row (opposite_of l)) [
  | inr absent ↦ inr (l, Contains-head l ls, absent)
  | inl there ↦ elim (first_open row ls) [
    | inl all ↦ inl (All-cons (λ m. Contains row (opposite_of m)) l ls there all)
    | inr some ↦ inr (some.0, Contains-tail l ls some.0 some.1, some.2)
  ]
]

-- all other literals of a clause are false, or another one isn't
other_open : (row c : List ℕ) (l : ℕ)
    → All (λ m. m ≢ l → Contains row (opposite_of m)) c
    ⊎ ((m : ℕ) × Contains c m × (m ≢ l) × (¬ (Contains row (opposite_of m))))
other_open row [] l = inl (All-nil (λ m. m ≢ l → Contains row (opposite_of m)))
other_open row (m ∷ ms) l = elim (other_open row ms l) [
  | inr some ↦ inr (some.0, Contains-tail m ms some.0 some.1, some.2, some.3)
  | inl all ↦ elim (same_or m l) [
    | inl e ↦ inl (All-cons (λ q. q ≢ l → Contains row (opposite_of q)) m ms (λ ne. absurd (ne e)) all)
    | inr ne ↦ elim (member_or row (opposite_of m)) [
      | inl there ↦ inl (All-cons (λ q. q ≢ l → Contains row (opposite_of q)) m ms (λ k. there) all)
      | inr absent ↦ inr (m, Contains-head m ms, ne, absent)
    ]
  ]
]

-- a clause that is neither false nor forces a free literal is settled
pub settled_otherwise : (row c : List ℕ) → ¬ (All (λ m. Contains row (opposite_of m)) c)
    → ((l : ℕ) → IsForcedBy row c l → ¬ (IsFree row l))
    → IsSettled row c
settled_otherwise row c untrue no_unit = elim (first_open row c) [
  | inl all ↦ absurd (untrue all)
  | inr l ↦ elim (member_or row l.0) [
    | inl there ↦ inl (l.0, l.1, there)
    | inr absent ↦ elim (other_open row c l.0) [
      | inl all ↦ absurd (no_unit l.0 (l.1, all) (absent, l.2))
      | inr m ↦ elim (member_or row m.0) [
        | inl there ↦ inl (m.0, m.1, there)
        | inr gone ↦ inr (l.0, m.0, l.1, m.1, (λ e. m.2 (sym e)), (absent, l.2), (gone, m.3))
      ]
    ]
  ]
]

-- a literal that a row settles a clause by is true
true_there : (row c : List ℕ) → IsSettled row c → All (λ l. ¬ (IsFree row l)) c
    → (l : ℕ) × Contains c l × Contains row l
true_there row c (inl t) total = t
true_there row c (inr t) total = absurd (All-contains (λ l. ¬ (IsFree row l)) c t.0 total t.2 t.5)

-- a row that settles the clauses and gives each of their literals a value satisfies them
pub satisfied_by_settled : (v : ℕ → Bool) (row : List ℕ) → AllHold v row → (clauses : List (List ℕ))
    → All (IsSettled row) clauses → All (λ c. All (λ l. ¬ (IsFree row l)) c) clauses
    → Satisfies v clauses
satisfied_by_settled v row holds clauses settled total = λ k d lt.
    let t = true_there row (get_or clauses k d) (settled k d lt) (total k d lt) in
    clause_holds v (get_or clauses k d) t.0 t.1 (All-contains (λ l. IsTrue (literal_value v l)) row t.0 holds t.2)

more_given : (clauses : List (List ℕ)) (given more row : List ℕ) → All (Contains more) given
    → IsUnitRow clauses given row
    → IsUnitRow clauses more row
more_given clauses given more [] sub u = tt
more_given clauses given more (l ∷ row) sub u = (
  elim u.0 [
    | inl g ↦ inl (All-contains (Contains more) given l sub g)
    | inr f ↦ inr f
  ],
  more_given clauses given more row sub u.1,
)

-- where unit propagation alone meets a conflict, no clause is new
pub nothing_new : (clauses : List (List ℕ)) (row c : List ℕ) → IsUnitRow clauses [] row → MeetsConflict clauses row
    → ¬ (IsNew clauses c)
nothing_new clauses row c u k n =
    (n.1.2 row
    (more_given clauses [] (map opposite_of (without n.1.0 c)) row
    (All-nil (Contains (map opposite_of (without n.1.0 c)))) u)).1
    k

-- a list of new clauses grows by a clause that is new after them
pub AllNew-push : (clauses learnt : List (List ℕ)) (c : List ℕ) → AllNew clauses learnt → IsNew (clauses ++ learnt) c
    → AllNew clauses (learnt ++ c ∷ [])
AllNew-push clauses [] c all new = (rw append-nil at new, tt)
AllNew-push clauses (d ∷ ds) c all new =
    (all.0, AllNew-push (clauses ++ d ∷ []) ds c all.1 (rw (← append_assoc clauses (d ∷ []) ds) at new))

-- variables that determine a formula still do when clauses are added
pub Determines-append : (clauses more : List (List ℕ)) (vars : ℕ) (variables : List ℕ)
    → Determines clauses vars variables
    → Determines (clauses ++ more) vars variables
Determines-append clauses more vars variables h = λ literals choice.
    let one = h literals choice in (one.0, IsUnitRow-append clauses more literals one.0 one.1, one.2)

-- all variables determine each formula
pub all_determine : (clauses : List (List ℕ)) (vars : ℕ) (variables : List ℕ)
    → ((v : ℕ) → v < vars → Contains variables v)
    → Determines clauses vars variables
all_determine clauses vars variables all = λ literals choice.
    (literals, given_row clauses literals literals (All-contains_itself literals), λ v lt. rw choice (all v lt))
