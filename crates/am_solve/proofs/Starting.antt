-- The false clause from which an analysis starts.
use Rattle.std.proofs.Common.{ℕ, ◌≡◌, ◌≢◌, ◌+◌, ◌<◌, ◌≤◌, Bool, true, false, List, [], ◌∷◌, All, length, get_or, map}
use Rattle.std.proofs.Common.{take, refl, sym, ap, ◌∙◌, inl, inr, arith}
use Rattle.std.specs.Prelude.{Contains, Some, slice_index_or}
use Rattle.std.specs.List.Sorted.{IsStrictlyIncreasing}
use Rattle.std.proofs.lemmas.List.{get_or-map, length-map}
use Rattle.std.proofs.lemmas.List.Elements.{All-nil, All-contains, All-weaker, Contains-get_or}
use Rattle.am_lit.specs.Literal.{variable_of, opposite_of}
use Rattle.am_lit.specs.UnitRow.{IsConsistent, IsForcedBy}
use Rattle.am_chain.specs.declared.chain.Step.{Step}
use Rattle.am_trail.specs.declared.entry.Entry.{Entry}
use Rattle.am_trail.specs.Trails.{literals, Assigned, IsTrail}
use Rattle.am_watch.specs.Watching.{IsExplained, IsReason, clause_at}
use Rattle.am_lit.proofs.Laws.{Contains-nil}
use Rattle.am_trail.proofs.Laws.{consistent}
use Rattle.am_chain.specs.inside.Marks.{mark_at}
use Rattle.am_solve.specs.inside.Marking.{IsMarkedMore, IsReachedClause, IsDerivedDownTo, IsCounted}
use Rattle.am_solve.proofs.Counting.{marked_in, some_counted}
use Rattle.am_solve.proofs.Deriving.{IsApart, not_true}
use Rattle.am_lit.proofs.Laws.{variable_of-opposite_of}

-- where all literals are false, all but one are
pub untrue_besides : (row c : List ℕ) (l : ℕ) → All (λ m. Contains row (opposite_of m)) c
    → All (λ m. m ≢ l → Contains row (opposite_of m)) c
untrue_besides row c l h =
    All-weaker (λ m. Contains row (opposite_of m)) (λ m. m ≢ l → Contains row (opposite_of m)) (λ m k ne. k) c h

-- a literal of a false clause isn't one of the row's
pub not_there : (row c : List ℕ) (l : ℕ) → IsConsistent row → All (λ m. Contains row (opposite_of m)) c → Contains row l
    → (m : ℕ) → Contains c m
    → m ≢ l
not_there row c l consistent h there m in' same =
    consistent l there (rw same at (All-contains (λ m. Contains row (opposite_of m)) c m h in'))

module _ (clauses : List (List ℕ)) (row : List ℕ) (old marks : List Bool) (first besides : ℕ)
    (more : IsMarkedMore row old marks (get_or clauses first []) besides)
    (off : (k : ℕ) → mark_at old k ≡ false)
    (absent : (m : ℕ) → Contains (get_or clauses first []) m → m ≢ besides) where
  -- before any step the clause itself is marked
  pub reached_first : IsStrictlyIncreasing (get_or clauses first []) → IsReachedClause clauses row marks first []
  reached_first rises = record {
    current = get_or clauses first [];
    derived = refl;
    rises = rises;
    marked = record {
      has = λ m c. more.there m c (absent m c);
      gives = λ k lk on. elim (more.within k on) [
        | inl o ↦ let clash : false ≡ true = sym (off k) ∙ o in cc
        | inr m ↦ rw (← m.4) m.2
      ];
    };
    named = All-nil (λ (s : Step). Contains (map variable_of row) s.variable);
  }

  -- and no place after the row is
  pub derived_first : IsStrictlyIncreasing (get_or clauses first []) → length marks ≡ length row
      → IsDerivedDownTo clauses row marks first [] (length row)
  derived_first rises long = record {
    reached = reached_first rises;
    above = λ k le. not_true (mark_at marks k) (λ on. let lt = marked_in marks k on in omega arith);
    few = omega arith;
  }

  -- a literal from the start on makes the count
  pub first_counted : (start : ℕ) (kept : List ℕ) (n k : ℕ) → IsApart row → IsCounted row start marks kept n → start ≤ k
      → k < length row → Contains (get_or clauses first []) (opposite_of (get_or row k 0))
      → 0 < n
  first_counted start kept n k apart counted le lt there =
      let q = more.there (opposite_of (get_or row k 0)) there (absent (opposite_of (get_or row k 0)) there) in
      let same : k ≡ q.0 =
      apart k q.0 lt q.1
      (sym (variable_of-opposite_of (get_or row k 0)) ∙ ap variable_of q.3
      ∙ (variable_of-opposite_of (get_or row q.0 0))) in
      some_counted row start marks kept n q.0 counted (omega arith) q.2

-- places that aren't marked are passed over
pub derived_down : (clauses : List (List ℕ)) (row : List ℕ) (marks : List Bool) (first : ℕ) (steps : List Step)
    (i p : ℕ)
    → IsDerivedDownTo clauses row marks first steps i → p < i → ((k : ℕ) → p < k → mark_at marks k ≡ false)
    → IsDerivedDownTo clauses row marks first steps (p + 1)
derived_down clauses row marks first steps i p d lt above = record {
  reached = d.reached;
  above = λ k le. above k (omega arith);
  few = omega (arith, d.few);
}

-- what the reason of an entry says
pub reason_facts : (clauses : List (List ℕ)) (t : Assigned) (p r : ℕ) (d : Entry) → IsExplained 0 clauses t.entries
    → p < length t.entries → (slice_index_or t.entries p d).reason ≡ Some r
    → (r < length clauses)
    × IsForcedBy (take p (literals t.entries)) (clause_at clauses r) (get_or (literals t.entries) p 0)
reason_facts clauses t p r d explained lt is =
    let one : IsReason clauses (take p (literals t.entries)) (get_or t.entries p d).literal
    (get_or t.entries p d).reason = explained p d (omega arith) lt in
    let two : IsReason clauses (take p (literals t.entries)) (get_or t.entries p d).literal (Some r) = rw is at one in
    rw (get_or-map (λ (e : Entry). e.literal) t.entries p d 0 lt) two

-- the last literal of a trail isn't in a false clause
pub last_absent : (t : Assigned) → IsTrail t → (c : List ℕ) (l j : ℕ)
    → All (λ m. Contains (literals t.entries) (opposite_of m)) c → (k : ℕ) → k < length t.entries
    → l ≡ get_or (literals t.entries) j 0 → j < length t.entries
    → (m : ℕ) → Contains c m → m ≢ l
last_absent t trail c l j h k lt is inside =
    not_there (literals t.entries) c l (consistent t trail) h
    (rw is (Contains-get_or (literals t.entries) j 0 (omega (arith, length-map t.entries (λ e. e.literal)))))

pub none_false : (es : List Entry) → length es ≡ 0 → (c : List ℕ) → All (λ m. Contains (literals es) (opposite_of m)) c
    → (l m : ℕ) → Contains c m
    → m ≢ l
none_false [] e c h l m there =
    absurd (Contains-nil (opposite_of m) (All-contains (λ x. Contains [] (opposite_of x)) c m h there))
none_false (x ∷ xs) e c h l m there = absurd (omega arith)
