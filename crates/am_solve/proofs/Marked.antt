-- The marks of one more clause.
use Rattle.std.proofs.Common.{ℕ, ◌≡◌, ◌≢◌, ◌+◌, ◌<◌, Bool, true, false, not, eqb, List, [], ◌∷◌, ◌++◌, All, length}
use Rattle.std.proofs.Common.{get_or, set, take, map, sym, ap, ◌∙◌, inl, inr, arith}
use Rattle.std.proofs.lemmas.Bool.Decides.{nat_tests}
use Rattle.std.specs.Prelude.{Contains, Option, Some, None, IsSome}
use Rattle.std.proofs.lemmas.List.{get_or-set_same, get_or-set_other, get_or_default, length-set, length-map, take_more}
use Rattle.std.proofs.lemmas.List.{get_or-map}
use Rattle.am_trail.specs.declared.entry.Entry.{Entry}
use Rattle.std.proofs.lemmas.List.Elements.{Contains-append_left, Contains-push, Contains-push_cases}
use Rattle.am_lit.specs.Literal.{variable_of, opposite_of}
use Rattle.am_lit.proofs.Laws.{same_or, Contains-map}
use Rattle.am_trail.specs.Trails.{literals, Assigned, IsTrail}
use Rattle.am_chain.specs.inside.Marks.{mark_at}
use Rattle.am_solve.specs.inside.Marking.{IsMarkedMore}
use Rattle.am_solve.proofs.Deriving.{IsApart}
use Rattle.am_lit.proofs.Laws.{opposite_of-opposite_of, variable_of-opposite_of}

-- what holds of all items holds of the one at a place
pub All-read : (P : ℕ → Type 0) (xs : List ℕ) (i x : ℕ) → i < length xs → x ≡ get_or xs i x → All P xs → P x
All-read P xs i x lt is h = rw (← is) at (h i x lt)

-- the variable of a false literal has a value
pub has_value : (row : List ℕ) (l v : ℕ) → v ≡ variable_of l → Contains row (opposite_of l)
    → Contains (map variable_of row) v
has_value row l v is h = rw (is, ← (variable_of-opposite_of l)) (Contains-map variable_of row (opposite_of l) h)

-- the variables of a trail's literals differ
pub apart_of : (t : Assigned) → IsTrail t → IsApart (literals t.entries)
apart_of t h = λ i j li lj e.
    let long = length-map t.entries (λ e. e.literal) in h.apart i j (omega arith) (omega arith) e

-- a false literal is the opposite of the one at its variable's place
pub opposite_at : (row : List ℕ) → IsApart row → (l p : ℕ) → Contains row (opposite_of l) → p < length row
    → variable_of (get_or row p 0) ≡ variable_of l
    → l ≡ opposite_of (get_or row p 0)
opposite_at row apart l p h lt same =
    let there : get_or row h.0 0 ≡ opposite_of l = get_or_default row h.0 0 (opposite_of l) h.1 ∙ h.2 in
    let at : p ≡ h.0 = apart p h.0 lt h.1 (same ∙ sym (variable_of-opposite_of l) ∙ sym (ap variable_of there)) in
    sym (opposite_of-opposite_of l) ∙ ap opposite_of (sym there ∙ ap (λ k. get_or row k 0) (sym at))

module _ (row : List ℕ) (old now : List Bool) (clause : List ℕ) (i x besides : ℕ) (lt : i < length clause)
    (is : x ≡ get_or clause i x) (h : IsMarkedMore row old now (take i clause) besides) where
  seen : take (i + 1) clause ≡ take i clause ++ x ∷ []
  seen = take_more clause i x lt ∙ ap (λ y. take i clause ++ y ∷ []) (sym is)

  -- the literal that is left out
  pub more_besides : x ≡ besides → IsMarkedMore row old now (take (i + 1) clause) besides
  more_besides same = rw seen (record {
    count = h.count;
    keeps = h.keeps;
    there = λ m c ne. elim (Contains-push_cases (take i clause) x m c) [
      | inl k ↦ h.there m k ne
      | inr e ↦ absurd (ne (sym e ∙ same))
    ];
    within = λ k on. elim (h.within k on) [
      | inl o ↦ inl o
      | inr m ↦ inr (m.0, m.1, Contains-append_left (take i clause) (x ∷ []) m.0 m.2, m.3, m.4)
    ];
  })

  -- one more place
  pub more_place : (p : ℕ) → x ≢ besides → p < length row → p < length now → x ≡ opposite_of (get_or row p 0)
      → IsMarkedMore row old (set now p true) (take (i + 1) clause) besides
  more_place p ne lp ln at = rw seen (record {
    count = length-set now p true ∙ h.count;
    keeps = λ k on. kept k (h.keeps k on);
    there = λ m c apart. elim (Contains-push_cases (take i clause) x m c) [
      | inl k ↦ let q = h.there m k apart in (q.0, q.1, kept q.0 q.2, q.3)
      | inr e ↦ (p, lp, here, sym e ∙ at)
    ];
    within = λ k on. elim (same_or k p) [
      | inl e ↦ inr (x, rw e lp, Contains-push (take i clause) x, ne, rw e at)
      | inr other ↦ elim (h.within k (sym (get_or-set_other now p k true false other) ∙ on)) [
        | inl o ↦ inl o
        | inr m ↦ inr (m.0, m.1, Contains-append_left (take i clause) (x ∷ []) m.0 m.2, m.3, m.4)
      ]
    ];
  }) where
    here : mark_at (set now p true) p ≡ true
    here = get_or-set_same now p true false ln

    kept : (k : ℕ) → mark_at now k ≡ true → mark_at (set now p true) k ≡ true
    kept k on = elim (same_or k p) [ inl e ↦ rw e here | inr other ↦ get_or-set_other now p k true false other ∙ on ]

-- the variable at a place has a value
pub value_at : (t : Assigned) (i l v : ℕ) → i < length t.entries → l ≡ get_or (literals t.entries) i 0
    → v ≡ variable_of l
    → Contains (map variable_of (literals t.entries)) v
value_at t i l v lt is at =
    let row = literals t.entries in
    let inside : i < length row = omega (arith, length-map t.entries (λ e. e.literal)) in (
      i,
      omega (arith, length-map row variable_of),
      get_or-map variable_of row i 0 v inside ∙ sym (at ∙ ap variable_of is),
    )

-- the variable of an entry is that of its literal
pub entry_var : (t : Assigned) (i l v : ℕ) (d : Entry) → i < length t.entries → l ≡ get_or (literals t.entries) i 0
    → v ≡ variable_of l
    → variable_of (get_or t.entries i d).literal ≡ v
entry_var t i l v d lt is at =
    ap variable_of (sym (get_or-map (λ (e : Entry). e.literal) t.entries i d 0 lt)) ∙ sym (at ∙ ap variable_of is)

-- None is no value
pub none_there : {X : Type 0} (o : Option X) → o ≡ None → IsSome o → ⊥
none_there None e h = let clash : false ≡ true = h in cc
none_there (Some x) e h = cc

-- the variables of a trail's literals
pub variable_below : (t : Assigned) → IsTrail t → (l : ℕ) → Contains (literals t.entries) l → variable_of l < t.vars
variable_below t h l (k, lt, e) =
    let at : get_or (literals t.entries) k 0 ≡ l = get_or_default (literals t.entries) k 0 l lt ∙ e in
    rw at at (h.below k (omega (arith, lt, length-map t.entries (λ e. e.literal))))

-- what a test of two literals says
pub differ_when : (b : Bool) (m l : ℕ) → b ≡ not (eqb m l) → b ≡ true → m ≢ l
differ_when b m l e t = grind (arith, nat_tests)

-- and what it says where it fails
pub same_when : (b : Bool) (m l : ℕ) → b ≡ not (eqb m l) → b ≡ false → m ≡ l
same_when b m l e f = grind (arith, nat_tests)
