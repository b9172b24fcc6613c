-- Decisions over a list of variables that determines the formula.
use Rattle.std.proofs.Common.{ℕ, ◌≡◌, ◌+◌, ◌<◌, List, [], ◌∷◌, ◌++◌, All, length, map, get_or, take, refl}
use Rattle.std.proofs.Common.{length-append, sym, ◌∙◌, inl, inr, arith}
use Rattle.std.specs.Prelude.{Contains, ◌⊎◌}
use Rattle.std.proofs.lemmas.List.{get_or-map, get_or_append_left, length-map}
use Rattle.std.proofs.lemmas.List.Elements.{All-contains, All-cons, All-head, All-more, All-nil, All-tail}
use Rattle.std.proofs.lemmas.List.Elements.{Contains-get_or, Contains-push_cases}
use Rattle.am_lit.specs.Literal.{variable_of}
use Rattle.am_lit.specs.UnitRow.{Determines, IsChoice, IsConsistent, IsFree, IsSettled}
use Rattle.am_lit.proofs.Laws.{Contains-map, closed_by_settled}
use Rattle.am_trail.specs.declared.entry.Entry.{Entry}
use Rattle.am_trail.specs.Trails.{Assigned, HasValue, IsTrail, literals}
use Rattle.am_lit.proofs.Laws.{other_literal, same_or}
use Rattle.am_trail.proofs.Laws.{consistent}
use Rattle.am_solve.proofs.Marked.{variable_below}
use Rattle.am_solve.specs.inside.Choosing.{IsPick}
use Rattle.am_solve.specs.inside.Searching.{KeepsTo}

-- a literal of a variable that has a value, in the row
pub literal_there : (row : List ℕ) (v : ℕ) → Contains (map variable_of row) v
    → (l : ℕ) × Contains row l × (variable_of l ≡ v)
literal_there row v h =
    let inside : h.0 < length row = omega (arith, h.1, length-map row variable_of) in
    (get_or row h.0 0, Contains-get_or row h.0 0 inside, sym (get_or-map variable_of row h.0 0 v inside) ∙ h.2)

-- a literal in the row for each variable of a list
choice_there : (row base : List ℕ) → All (Contains (map variable_of row)) base
    → (literals : List ℕ) × IsChoice base literals × All (Contains row) literals
choice_there row [] h = ([], refl, All-nil (Contains row))
choice_there row (v ∷ vs) h =
    let l = literal_there row v (All-head (Contains (map variable_of row)) v vs h) in
    let rest = choice_there row vs (All-tail (Contains (map variable_of row)) v vs h) in
    (l.0 ∷ rest.0, rw (l.2, rest.1) refl, All-cons (Contains row) l.0 rest.0 l.1 rest.2)

-- what holds of each clause of two lists holds of those of the first
pub first_all : {X : Type 0} (P : X → Type 0) (xs ys : List X) → All P (xs ++ ys) → All P xs
first_all P xs ys h = λ k d lt. rw (get_or_append_left xs ys d k lt) at (h k d (omega (arith, lt, length-append xs ys)))

-- once the variables that determine a formula have values, a row that settles its clauses has a value
-- for each variable
pub determined : (given : List (List ℕ)) (vars : ℕ) (base row : List ℕ) → Determines given vars base → IsConsistent row
    → All (IsSettled row) given → All (Contains (map variable_of row)) base
    → (v : ℕ) → v < vars → Contains (map variable_of row) v
determined given vars base row d consistent' settled valued v lt =
    let c = choice_there row base valued in
    let u = d c.0 c.1 in
    let within = (closed_by_settled given row c.0 u.0 consistent' settled c.2 u.1).0 in
    let l = literal_there u.0 v (u.2 v lt) in
    rw (← l.2) (Contains-map variable_of row l.0 (All-contains (Contains row) u.0 l.0 within l.1))

-- a free literal's variable has no value
pub no_value : (row : List ℕ) (l : ℕ) → IsFree row l → Contains (map variable_of row) (variable_of l) → ⊥
no_value row l free h =
    let m = literal_there row (variable_of l) h in
    elim (same_or m.0 l) [
      | inl e ↦ free.0 (rw e at m.1)
      | inr ne ↦ free.1 (rw (other_literal l m.0 m.2 ne) at m.1)
    ]

-- a decision while the variables of the list come first keeps to the list, where it determines the formula
pub keeps_decide : (given learnt : List (List ℕ)) (t : Assigned) (base : List ℕ) (l : ℕ) (e : Entry) → IsTrail t
    → All (IsSettled (literals t.entries)) (given ++ learnt) → IsPick t base l → e.literal ≡ l
    → Determines given t.vars base → KeepsTo base learnt t.entries → KeepsTo base learnt (t.entries ++ e ∷ [])
keeps_decide given learnt t base l e trail settled pick is d k = record {
  over = k.over;
  decided = λ x there none. elim (Contains-push_cases t.entries e x there) [
    | inl old ↦ k.decided x old none
    | inr same ↦ rw (← same, is) (inside pick.preferred)
  ];
} where
  inside : Contains base (variable_of l) ⊎ All (HasValue t.entries) base → Contains base (variable_of l)
  inside (inl h) = h
  inside (inr h) =
      absurd
      (no_value (literals t.entries) l pick.free
      (determined given t.vars base (literals t.entries) d (consistent t trail)
      (first_all (IsSettled (literals t.entries)) given learnt settled) h (variable_of l) pick.below))

-- one more variable of a list has a value
pub valued_more : (es : List Entry) (first : List ℕ) (i : ℕ) → i < length first → (l : ℕ)
    → variable_of l ≡ get_or first i 0 → HasValue es (variable_of l) → All (HasValue es) (take i first)
    → All (HasValue es) (take (i + 1) first)
valued_more es first i lt l is h all = All-more (HasValue es) first i 0 lt all (rw is at h)

-- a variable that has a value is one of the trail's
pub value_below : (t : Assigned) → IsTrail t → (v : ℕ) → HasValue t.entries v → v < t.vars
value_below t trail v h = let l = literal_there (literals t.entries) v h in rw l.2 at (variable_below t trail l.0 l.1)
