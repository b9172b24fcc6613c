-- Trails that go on by implied literals.
use Rattle.std.proofs.Common.{ℕ, ◌≡◌, ◌≢◌, ◌<◌, List, [], ◌∷◌, ◌++◌, All, length, get_or, take, refl, sym, ap, ◌∙◌, inl}
use Rattle.std.proofs.Common.{inr, arith, rules, length-append, append_assoc}
use Rattle.std.specs.Prelude.{Contains, Some, IsSome}
use Rattle.std.proofs.lemmas.List.{append-nil, map-append, length-map, get_or_append_left, take-append-le}
use Rattle.std.proofs.Math.Seq.{get_or-append_seam, take-append_seam}
use Rattle.std.proofs.lemmas.List.Elements.{All-nil, All-cons, All-weaker, All-append, Contains-append_left}
use native.Mathlib.Decide.{dec_lt}
use Prim.{yes, no}
use Rattle.am_lit.specs.Literal.{opposite_of}
use Rattle.am_lit.proofs.Laws.{same_or}
use Rattle.am_lit.specs.UnitRow.{IsForcedBy}
use Rattle.am_trail.specs.declared.entry.Entry.{Entry}
use Rattle.am_trail.specs.Trails.{Assigned, literals}
use Rattle.am_watch.specs.Watching.{clause_at, IsReason, IsExplained, Extends, IsTrueIn}

-- entries that have their reasons have them with one more entry that has its own
pub explained_more : (clauses : List (List ℕ)) (es : List Entry) (e : Entry) (from : ℕ)
    → IsReason clauses (literals es) e.literal e.reason → IsExplained from clauses es
    → IsExplained from clauses (es ++ e ∷ [])
explained_more clauses es e from reason h k d lo hi =
    let long = length-map es (λ (x : Entry). x.literal) in
    elim (dec_lt k (length es)) [
      | yes lt ↦
          rw (
            map-append (λ (x : Entry). x.literal) es (e ∷ []),
            take-append-le k (literals es) (e.literal ∷ [])
                (omega arith),
            get_or_append_left es (e ∷ []) d k lt,
          ) (h k d lo lt)
      | no ge ↦
          let at : k ≡ length es = omega (arith, length-append es (e ∷ [])) in
          let same : length es ≡ length (literals es) = omega arith in
          let prior : take k (literals (es ++ e ∷ [])) ≡ literals es =
          ap (λ n. take n (literals (es ++ e ∷ []))) (at ∙ same)
          ∙ rw (map-append (λ (x : Entry). x.literal) es (e ∷ []))
          (take-append_seam (literals es) (e.literal ∷ [])) in
          let here : get_or (es ++ e ∷ []) k d ≡ e = rw at (get_or-append_seam es e [] d) in
          rw (prior, here) reason
    ]

-- entries that have their reasons have them in a trail that goes on, and so do the further ones
pub explained_still : (clauses : List (List ℕ)) (t u : Assigned) → Extends clauses t u → (from : ℕ)
    → IsExplained from clauses t.entries → IsExplained from clauses u.entries
explained_still clauses t u x from h k d lo hi = elim (dec_lt k (length t.entries)) [
  | yes lt ↦
      let long = length-map t.entries (λ (x : Entry). x.literal) in
      rw (
        x.begins,
        map-append (λ (x : Entry). x.literal) t.entries x.more,
        take-append-le k (literals t.entries) (literals x.more) (omega arith),
        get_or_append_left t.entries x.more d k lt,
      ) (h k d lo lt)
  | no ge ↦ x.explained k d (omega arith) hi
]

-- a trail goes on from itself
pub Extends-refl : (clauses : List (List ℕ)) (t : Assigned) → Extends clauses t t
Extends-refl clauses t = record {
  vars = refl;
  level = refl;
  more = [];
  begins = sym (append-nil t.entries);
  implied = All-nil (λ e. IsSome e.reason × (e.level ≡ t.level));
  explained = λ k d lo hi. absurd (omega arith);
}

-- a trail goes on by a literal that a clause forces
pub Extends-imply : (clauses : List (List ℕ)) (t : Assigned) (l r : ℕ) → r < length clauses
    → IsForcedBy (literals t.entries) (clause_at clauses r) l
    → Extends clauses t (record t {
      entries = t.entries ++ record
          { literal = l; level = t.level; reason = Some r } ∷ [];
    })
Extends-imply clauses t l r lt forced =
    let e : Entry = record { literal = l; level = t.level; reason = Some r } in
    record {
      vars = refl;
      level = refl;
      more = e ∷ [];
      begins = refl;
      implied = All-cons (λ (e : Entry). IsSome e.reason × (e.level ≡ t.level)) e [] (search rules, refl)
          (All-nil (λ (e : Entry). IsSome e.reason × (e.level ≡ t.level)));
      explained =
          explained_more clauses t.entries e (length t.entries) (lt, forced) (λ k d lo hi. absurd (omega arith));
    }

-- what goes on from a trail that goes on goes on
pub Extends-trans : (clauses : List (List ℕ)) (t u v : Assigned) → Extends clauses t u → Extends clauses u v
    → Extends clauses t v
Extends-trans clauses t u v a b = record {
  vars = b.vars ∙ a.vars;
  level = b.level ∙ a.level;
  more = a.more ++ b.more;
  begins = b.begins ∙ ap (λ r. r ++ b.more) a.begins ∙ append_assoc t.entries a.more b.more;
  implied = All-append (λ (e : Entry). IsSome e.reason × (e.level ≡ t.level)) a.more b.more a.implied
      (rw a.level at b.implied);
  explained = explained_still clauses u v b (length t.entries) a.explained;
}

-- what stands in a trail stands in one that goes on from it
pub literal_still : (clauses : List (List ℕ)) (t u : Assigned) → Extends clauses t u → (l : ℕ)
    → Contains (literals t.entries) l → Contains (literals u.entries) l
literal_still clauses t u x l h = rw (x.begins, map-append (λ (e : Entry). e.literal) t.entries x.more)
    (Contains-append_left (literals t.entries) (literals x.more) l h)

-- a clause that is true stays true
pub true_still : (clauses : List (List ℕ)) (t u : Assigned) → Extends clauses t u → (c : List ℕ) → IsTrueIn t.entries c
    → IsTrueIn u.entries c
true_still clauses t u x c h = (h.0, h.1, literal_still clauses t u x h.0 h.2)

-- a clause that forces a false literal is false
pub forced_false : (row c : List ℕ) (l : ℕ) → IsForcedBy row c l → Contains row (opposite_of l)
    → All (λ m. Contains row (opposite_of m)) c
forced_false row c l f h = All-weaker (λ m. m ≢ l → Contains row (opposite_of m)) (λ m. Contains row (opposite_of m))
    (λ m k. elim (same_or m l) [ inl e ↦ rw e h | inr ne ↦ k ne ]) c f.1
