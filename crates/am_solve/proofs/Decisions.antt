-- Conflicts that are traced back to decided literals.
use Rattle.std.proofs.Common.{ℕ, ◌≡◌, ◌≢◌, ◌+◌, ◌<◌, ◌≤◌, Bool, true, false, List, [], ◌∷◌, ◌++◌, All, length, get_or}
use Rattle.std.proofs.Common.{take, refl, sym, ap, ◌∙◌, inl, inr, arith}
use Rattle.std.specs.Prelude.{Contains, Option, None, Some, IsSome}
use Rattle.std.specs.List.Sorted.{IsStrictlyIncreasing}
use Rattle.std.proofs.lemmas.List.{length-map, get_or-map}
use Rattle.std.proofs.lemmas.List.Elements.{All-get_or, Contains-get_or, Contains-append_left, Contains-push}
use Rattle.std.proofs.lemmas.List.Elements.{Contains-push_cases}
use native.Mathlib.Decide.{dec_lt}
use Prim.{yes, no}
use Rattle.am_lit.specs.Literal.{variable_of, opposite_of}
use Rattle.am_lit.specs.UnitRow.{IsConsistent, IsSettled}
use Rattle.am_lit.proofs.Laws.{Contains-nil, same_or}
use Rattle.am_chain.specs.declared.chain.Step.{Step}
use Rattle.am_trail.specs.declared.entry.Entry.{Entry}
use Rattle.am_trail.specs.Trails.{literals}
use Rattle.am_chain.specs.inside.Marks.{mark_at}
use Rattle.am_solve.specs.inside.Marking.{AreKeptLiterals, IsMarkedMore, IsResolved, IsUnique, OpposesDecision}
use Rattle.am_solve.proofs.Counting.{marked_in}
use Rattle.am_solve.proofs.Deriving.{IsApart}
use Rattle.am_solve.proofs.Levels.{reaches}
use Rattle.am_solve.proofs.Marked.{none_there}
use Rattle.am_solve.proofs.Starting.{reached_first}
use Rattle.am_lit.proofs.Laws.{variable_of-opposite_of}

-- a false clause, before any step
pub resolved_first : (clauses : List (List ℕ)) (es : List Entry) (old marks : List Bool) (first besides : ℕ)
    → IsConsistent (literals es) → IsApart (literals es)
    → IsMarkedMore (literals es) old marks (get_or clauses first []) besides
    → ((k : ℕ) → mark_at old k ≡ false) → ((m : ℕ) → Contains (get_or clauses first []) m → m ≢ besides)
    → IsStrictlyIncreasing (get_or clauses first []) → first < length clauses → length marks ≡ length es
    → All (λ m. Contains (literals es) (opposite_of m)) (get_or clauses first [])
    → IsResolved clauses es marks first [] (length es)
resolved_first clauses es old marks first besides consistent apart more off absent rises lt long false' = record {
  reached = reached_first clauses (literals es) old marks first besides more off absent rises;
  decided = λ k d le on. let inside = marked_in marks k on in absurd (omega arith);
  few = omega arith;
  reaches = λ start settled.
      let k =
      reaches (literals es) (get_or clauses first []) start consistent
      (All-get_or (IsSettled (take start (literals es))) clauses first [] lt settled) false' in
      let q =
      more.there (opposite_of (get_or (literals es) k.0 0)) k.3
      (absent (opposite_of (get_or (literals es) k.0 0)) k.3) in
      let same : k.0 ≡ q.0 =
      apart k.0 q.0 k.2 q.1
      (sym (variable_of-opposite_of (get_or (literals es) k.0 0)) ∙ ap variable_of q.3
      ∙ (variable_of-opposite_of (get_or (literals es) q.0 0))) in
      (q.0, omega (arith, same, k.1), q.2);
}

-- after all steps, the one marked place of the current level is the level's decision
pub unique_decided : (clauses : List (List ℕ)) (es : List Entry) (marks : List Bool) (first : ℕ) (steps : List Step)
    (start : ℕ) (kept : List ℕ)
    → IsResolved clauses es marks first steps 0 → length marks ≡ length es
    → ((k : ℕ) (d : Entry) → start < k → k < length es → IsSome (get_or es k d).reason)
    → All (IsSettled (take start (literals es))) clauses → AreKeptLiterals (literals es) start marks kept
    → IsUnique clauses (literals es) start first marks kept steps start
unique_decided clauses es marks first steps start kept r long implied settled keeps =
    let d : Entry = record { literal = 0; level = 0; reason = None } in
    let k = r.reaches start settled in
    let is : k.0 ≡ start = only k.0 k.1 k.2 in
    let here : mark_at marks start ≡ true = rw is at k.2 in
    record {
      high = omega arith;
      inside = omega (arith, marked_in marks start here, length-map es (λ e. e.literal));
      here = here;
      only = only;
      keeps = keeps;
      reached = r.reached;
      few = omega (arith, r.few, length-map es (λ e. e.literal));
    } where
      only : (k : ℕ) → start ≤ k → mark_at marks k ≡ true → k ≡ start
      only k le on = elim (dec_lt start k) [
        | yes lt ↦
            let d : Entry = record { literal = 0; level = 0; reason = None } in
            absurd
            (none_there (get_or es k d).reason (r.decided k d (omega arith) on)
            (implied k d lt (omega (arith, marked_in marks k on))))
        | no ge ↦ omega arith
      ]

-- the literal at a place that was decided
pub decided_at : (es : List Entry) (k : ℕ) → k < length es → ((d : Entry) → (get_or es k d).reason ≡ None)
    → OpposesDecision es (opposite_of (get_or (literals es) k 0))
decided_at es k lt none =
    let d : Entry = record { literal = 0; level = 0; reason = None } in (
      get_or es k d,
      Contains-get_or es k d lt,
      none d,
      ap opposite_of (get_or-map (λ (e : Entry). e.literal) es k d 0 lt),
    )

-- what is kept at the end are opposites of decided literals
pub kept_decided : (clauses : List (List ℕ)) (es : List Entry) (marks : List Bool) (first : ℕ) (steps : List Step)
    (start : ℕ) (kept : List ℕ)
    → IsResolved clauses es marks first steps 0 → length marks ≡ length es
    → AreKeptLiterals (literals es) start marks kept → All (OpposesDecision es) kept
kept_decided clauses es marks first steps start kept r long keeps = λ j d lt.
    let k = keeps.has (get_or kept j d) (Contains-get_or kept j d lt) in
    rw k.3 (decided_at es k.0 (omega (arith, marked_in marks k.0 k.2)) (λ e. r.decided k.0 e (omega arith) k.2))

-- the kept literals of one more place
module _ (row : List ℕ) (marks : List Bool) (kept : List ℕ) (i : ℕ) (h : AreKeptLiterals row i marks kept) where
  -- a place without a mark adds none
  pub kept_over : mark_at marks i ≡ false → AreKeptLiterals row (i + 1) marks kept
  kept_over off = record {
    has = λ m there. let k = h.has m there in (k.0, omega (arith, k.1), k.2, k.3);
    gives = λ k lt on. elim (same_or k i) [
      | inl e ↦ let clash : false ≡ true = sym off ∙ rw e at on in absurd (cc)
      | inr ne ↦ h.gives k (omega arith) on
    ];
  }

  -- a marked place adds the opposite of its literal
  pub kept_more : (l : ℕ) → mark_at marks i ≡ true → l ≡ opposite_of (get_or row i 0)
      → AreKeptLiterals row (i + 1) marks (kept ++ l ∷ [])
  kept_more l on is = record {
    has = λ m there. elim (Contains-push_cases kept l m there) [
      | inl old ↦ let k = h.has m old in (k.0, omega (arith, k.1), k.2, k.3)
      | inr e ↦ (i, omega arith, on, sym e ∙ is)
    ];
    gives = λ k lt on'. elim (same_or k i) [
      | inl e ↦ rw (e, ← is) (Contains-push kept l)
      | inr ne ↦ Contains-append_left kept (l ∷ []) (opposite_of (get_or row k 0)) (h.gives k (omega arith) on')
    ];
  }

pub kept_none : (row : List ℕ) (marks : List Bool) → AreKeptLiterals row 0 marks []
kept_none row marks = record {
  has = λ m there. absurd (Contains-nil m there);
  gives = λ k lt on. absurd (omega arith);
}

-- an option that has no value is None
pub none_of : {X : Type 0} (o : Option X) → ((x : X) → o ≡ Some x → ⊥) → o ≡ None
none_of None f = refl
none_of (Some x) f = absurd (f x refl)

-- where nothing was decided, no place stays marked
pub none_marked : (clauses : List (List ℕ)) (es : List Entry) (marks : List Bool) (first : ℕ) (steps : List Step)
    → IsResolved clauses es marks first steps 0 → ((e : Entry) → Contains es e → IsSome e.reason)
    → (k : ℕ) → k < length (literals es) → mark_at marks k ≡ true → ⊥
none_marked clauses es marks first steps r implied k lt on =
    let d : Entry = record { literal = 0; level = 0; reason = None } in
    none_there (get_or es k d).reason (r.decided k d (omega arith) on)
    (implied (get_or es k d) (Contains-get_or es k d (omega (arith, length-map es (λ e. e.literal)))))
