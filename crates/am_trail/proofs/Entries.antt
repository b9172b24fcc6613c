-- Entries with a place for each of their variables.
use Rattle.std.proofs.Common.{ℕ, ◌≡◌, ◌+◌, ◌-◌, ◌<◌, ◌≤◌, List, [], ◌∷◌, ◌++◌, length, get_or, set, take, map, refl}
use Rattle.std.proofs.Common.{sym, ap, ◌∙◌, inl, inr, arith, length-append}
use Rattle.std.specs.Prelude.{Contains}
use Rattle.std.proofs.lemmas.List.{get_or_default, take-take, get_or-map, map-append, length-map}
use Rattle.std.proofs.lemmas.List.Elements.{Contains-get_or, Contains-push}
use Rattle.std.proofs.Math.Seq.{take-append_seam}
use Rattle.am_lit.specs.Literal.{variable_of, opposite_of}
use Rattle.am_lit.specs.UnitRow.{IsConsistent, IsFree}
use Rattle.am_lit.proofs.Laws.{Contains-cons_cases, Contains-head, Contains-map, Contains-nil, Contains-tail}
use Rattle.am_lit.proofs.Laws.{opposite_of-differs, other_literal, same_or, variable_of-opposite_of}
use Rattle.am_trail.specs.Trails.{Assigned, IsTrail, literals}
use Rattle.am_trail.specs.inside.Places.{IsPlaced, variables}
use Rattle.am_trail.specs.declared.entry.Entry.{Entry}
use Rattle.am_trail.proofs.Placing as placing

-- there are as many variables as entries
pub length-variables : (entries : List Entry) → length (variables entries) ≡ length entries
length-variables entries = length-map (literals entries) variable_of ∙ length-map entries (λ (e : Entry). e.literal)

-- the variable at a place is that of the literal there
pub variable_at : (entries : List Entry) (k : ℕ) → k < length entries
    → get_or (variables entries) k 0 ≡ variable_of (get_or (literals entries) k 0)
variable_at entries k lt = get_or-map variable_of (literals entries) k 0 0
    (omega (arith, length-map entries (λ (e : Entry). e.literal)))

literal_at : (entries : List Entry) (k : ℕ) (e : Entry) → k < length entries
    → get_or (literals entries) k 0 ≡ (get_or entries k e).literal
literal_at entries k e lt = get_or-map (λ (x : Entry). x.literal) entries k e 0 lt

-- the literals after one more entry
pub literals-push : (entries : List Entry) (e : Entry)
    → literals (entries ++ e ∷ []) ≡ literals entries ++ e.literal ∷ []
literals-push entries e = map-append (λ (x : Entry). x.literal) entries (e ∷ [])

variables-push : (entries : List Entry) (e : Entry)
    → variables (entries ++ e ∷ []) ≡ variables entries ++ variable_of e.literal ∷ []
variables-push entries e = ap (map variable_of) (literals-push entries e)
    ∙ map-append variable_of (literals entries) (e.literal ∷ [])

module _ (entries : List Entry) (places : List ℕ) (h : IsPlaced (variables entries) places) where
  module _ (e : Entry) (lt : variable_of e.literal < length places)
      (free : get_or places (variable_of e.literal) 0 ≡ 0) where
    -- a free variable gets the place after all others
    pub put_placed : (n : ℕ) → n ≡ length entries + 1
        → IsPlaced (variables (entries ++ e ∷ [])) (set places (variable_of e.literal) n)
    put_placed n is =
        let count : n ≡ length (variables entries) + 1 = omega (arith, length-variables entries) in
        rw (count, variables-push entries e)
        (placing.placed_more (variables entries) places h (variable_of e.literal) lt free)

    -- and there is room for it
    pub put_room : length entries + 1 ≤ length places
    put_room = omega (
      arith,
      placing.room (variables entries) places h (variable_of e.literal) lt free,
      length-variables entries,
    )

  -- entries are at most as many as variables
  pub few : length entries ≤ length places
  few = omega (arith, placing.few (variables entries) places h, length-variables entries)

  -- without the last entry its variable has no place, and the others keep theirs
  pub take_back : (rest : List Entry) (e : Entry) → entries ≡ rest ++ e ∷ []
      → IsPlaced (variables rest) (set places (variable_of e.literal) 0)
  take_back rest e is = placing.placed_less (variables rest) places (variable_of e.literal)
      (rw (is, variables-push rest e) at h)

  -- the last entry's variable is one of the trail's
  pub last_below : (rest : List Entry) (e : Entry) → entries ≡ rest ++ e ∷ [] → variable_of e.literal < length places
  last_below rest e is =
      let there : Contains (variables entries) (variable_of e.literal) =
      rw (is, variables-push rest e) (Contains-push (variables rest) (variable_of e.literal)) in
      placing.below (variables entries) places h (variable_of e.literal) there

  -- the last literal's variable has no other place
  pub last_free : (rest : List Entry) (e : Entry) → entries ≡ rest ++ e ∷ [] → IsFree (literals rest) e.literal
  last_free rest e is = (
    absent e.literal refl,
    absent (opposite_of e.literal) (variable_of-opposite_of e.literal),
  ) where
    row : IsPlaced (variables rest ++ variable_of e.literal ∷ []) places
    row = rw (is, variables-push rest e) at h

    absent : (m : ℕ) → variable_of m ≡ variable_of e.literal → ¬ (Contains (literals rest) m)
    absent m same there = placing.last_alone (variables rest) places (variable_of e.literal) row
        (rw same at (Contains-map variable_of (literals rest) m there))

  -- a free literal's variable has no place
  pub free_place : (l : ℕ) → variable_of l < length places → IsFree (literals entries) l
      → get_or places (variable_of l) 0 ≡ 0
  free_place l lt free = elim (same_or (get_or places (variable_of l) 0) 0) [
    | inl e ↦ e
    | inr ne ↦
        let k = get_or places (variable_of l) 0 - 1 in
        let old = h.back (variable_of l) lt ne in
        let inside : k < length entries = omega (arith, old.0, length-variables entries) in
        let same : variable_of (get_or (literals entries) k 0) ≡ variable_of l = sym (variable_at entries k inside)
        ∙ old.1 in
        let there : Contains (literals entries) (get_or (literals entries) k 0) =
        Contains-get_or (literals entries) k 0 (omega (arith, length-map entries (λ (e : Entry). e.literal))) in
        elim (same_or (get_or (literals entries) k 0) l) [
          | inl e ↦ absurd (free.0 (rw e at there))
          | inr other ↦ absurd (free.1 (rw (other_literal l (get_or (literals entries) k 0) same other) at there))
        ]
  ]

  -- the entry at the place of its variable
  pub entry_there : (e x : Entry) → Contains entries e → (v : ℕ) → variable_of e.literal ≡ v
      → x ≡ get_or entries (get_or places v 0 - 1) x → x ≡ e
  entry_there e x (k, lt, is) v at x_is =
      let lit : get_or (literals entries) k 0 ≡ e.literal = literal_at entries k e lt
      ∙ ap (λ (e : Entry). e.literal) is in
      let var : get_or (variables entries) k 0 ≡ v = variable_at entries k lt ∙ ap variable_of lit ∙ at in
      let place : get_or places v 0 ≡ k + 1 = rw var at (h.each k (omega (arith, length-variables entries))).1 in
      let back : get_or places v 0 - 1 ≡ k = omega arith in
      x_is ∙ ap (λ n. get_or entries n x) back ∙ get_or_default entries k x e lt ∙ is

-- a prefix of a prefix
pub prefix_less : (all xs ys : List Entry) (x : Entry) → xs ≡ ys ++ x ∷ [] → xs ≡ take (length xs) all
    → ys ≡ take (length ys) all
prefix_less all xs ys x e p =
    let le : length ys ≤ length xs = omega (arith, ap length e, length-append ys (x ∷ [])) in
    sym (sym (take-take (length ys) (length xs) all le) ∙ ap (take (length ys)) (sym p ∙ e)
    ∙ take-append_seam ys (x ∷ []))

-- the entry of a literal
pub entry_of : (es : List Entry) (l : ℕ) → Contains (literals es) l → (e : Entry) × Contains es e × (e.literal ≡ l)
entry_of [] l h = absurd (Contains-nil l h)
entry_of (x ∷ xs) l h = elim (Contains-cons_cases x.literal (literals xs) l h) [
  | inl e ↦ (x, Contains-head x xs, e)
  | inr t ↦ let r = entry_of xs l t in (r.0, Contains-tail x xs r.0 r.1, r.2)
]

-- the literal of an entry
pub literal_in : (es : List Entry) (e : Entry) → Contains es e → Contains (literals es) e.literal
literal_in es e h = Contains-map (λ (x : Entry). x.literal) es e h

-- no variable has both values in a trail
pub consistent : (t : Assigned) → IsTrail t → IsConsistent (literals t.entries)
consistent t h = λ l there other.
    let row = literals t.entries in
    let long = length-map t.entries (λ (e : Entry). e.literal) in
    let first : get_or row there.0 0 ≡ l = get_or_default row there.0 0 l there.1 ∙ there.2 in
    let second : get_or row other.0 0 ≡ opposite_of l = get_or_default row other.0 0 (opposite_of l) other.1
    ∙ other.2 in
    let same : there.0 ≡ other.0 = h.apart there.0 other.0 (omega (arith, there.1)) (omega (arith, other.1))
    (ap variable_of first ∙ sym (variable_of-opposite_of l) ∙ sym (ap variable_of second)) in
    opposite_of-differs l (sym second ∙ ap (λ k. get_or row k 0) (sym same) ∙ first)
