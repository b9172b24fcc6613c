-- One step of conflict analysis: a marked place is resolved on.
use Rattle.std.proofs.Common.{ℕ, ◌≡◌, ◌≢◌, ◌+◌, ◌<◌, ◌≤◌, Bool, true, false, List, [], ◌∷◌, ◌++◌, All, length, get_or}
use Rattle.std.proofs.Common.{map, set, take, refl, sym, ap, ◌∙◌, inl, inr, arith, length-append, length-take}
use Rattle.std.specs.Prelude.{Contains, None}
use Rattle.std.specs.List.Sorted.{IsStrictlyIncreasing}
use Rattle.std.proofs.lemmas.List.{get_or-set_same, get_or-set_other, get_or_default, get_or-take}
use Rattle.std.proofs.lemmas.List.Elements.{All-contains, All-get_or, All-push, Contains-get_or}
use Rattle.am_lit.specs.Literal.{variable_of, opposite_of}
use Rattle.am_lit.specs.UnitRow.{IsConsistent, IsForcedBy, IsFree, IsSettled}
use Rattle.am_lit.proofs.Laws.{Contains-map, same_or}
use Rattle.am_chain.specs.declared.chain.Step.{Step}
use Rattle.am_chain.specs.Resolvent.{has_pivot, resolvent}
use Rattle.am_chain.proofs.Laws.{IsStrictlyIncreasing-resolvent, from_resolvent, into_resolvent}
use Rattle.am_lit.proofs.Laws.{other_literal}
use Rattle.am_trail.specs.declared.entry.Entry.{Entry}
use Rattle.am_trail.specs.Trails.{literals}
use Rattle.am_watch.proofs.Laws.{Contains-take}
use native.Mathlib.Decide.{dec_lt}
use Prim.{yes, no}
use Rattle.am_chain.specs.inside.Marks.{mark_at}
use Rattle.am_solve.specs.inside.Marking.{IsMarkedMore, IsReachedClause, IsDerivedDownTo, IsResolved}
use Rattle.am_solve.proofs.Resolving.{chain_longer, pivot_there}
use Rattle.am_lit.proofs.Laws.{opposite_of-opposite_of, variable_of-opposite_of}

-- a test that doesn't hold fails
pub not_true : (b : Bool) → (b ≡ true → ⊥) → b ≡ false
not_true true h = absurd (h refl)
not_true false h = refl

-- the variables of a row differ
abbrev pub IsApart : List ℕ → Type 0
IsApart row =
    (i j : ℕ) → i < length row → j < length row → variable_of (get_or row i 0) ≡ variable_of (get_or row j 0) → i ≡ j

-- where a literal of the first places stands
pub place_in : (row : List ℕ) (i x : ℕ) → Contains (take i row) x
    → (k : ℕ) × (k < i) × (k < length row) × (get_or row k 0 ≡ x)
place_in row i x (k, lt, is) =
    let le = length-take i row in
    let inside : k < length row = omega arith in
    let low : k < i = omega arith in
    (k, low, inside, get_or_default row k 0 x inside ∙ sym (get_or-take i row k x low) ∙ is)

-- the item at a place stands in the front up to a later place
pub in_take : (row : List ℕ) (n k : ℕ) → k < n → k < length row → Contains (take n row) (get_or row k 0)
in_take row n k lt inside =
    let long = length-take n row in
    (k, omega arith, get_or-take n row k (get_or row k 0) lt ∙ get_or_default row k (get_or row k 0) 0 inside)

module _ (clauses : List (List ℕ)) (row : List ℕ) (consistent : IsConsistent row) (apart : IsApart row)
    (marks : List Bool) (first : ℕ) (steps : List Step) (i : ℕ) where
  -- a marked place is resolved on
  module _ (new : List Bool) (r : ℕ) (d : IsReachedClause clauses row marks first steps) (inside : i < length row)
      (in_marks : i < length marks) (on : mark_at marks i ≡ true) (lt : r < length clauses)
      (rises : IsStrictlyIncreasing (get_or clauses r []))
      (forced : IsForcedBy (take i row) (get_or clauses r []) (get_or row i 0))
      (more : IsMarkedMore row (set marks i false) new (get_or clauses r []) (get_or row i 0)) where
    abbrev l : ℕ
    l = get_or row i 0

    abbrev reason : List ℕ
    reason = get_or clauses r []

    abbrev next : List ℕ
    next = resolvent (variable_of l) d.current reason

    absent : ¬ (Contains (take i row) l)
    absent there =
        let k = place_in row i l there in
        let same : k.0 ≡ i = apart k.0 i k.2 inside (ap variable_of k.3) in
        omega (arith, k.1)

    all_false : All (λ x. Contains row (opposite_of x)) d.current
    all_false = λ j e lj.
        let k = d.marked.has (get_or d.current j e) (Contains-get_or d.current j e lj) in
        rw (k.3, opposite_of-opposite_of (get_or row k.0 0)) (Contains-get_or row k.0 0 k.1)

    pivot : has_pivot (variable_of l) d.current reason ≡ true
    pivot =
        pivot_there row (take i row) d.current reason l consistent absent (Contains-get_or row i 0 inside) d.rises rises
        all_false (d.marked.gives i inside on) forced.0 forced.1

    unmarked : mark_at (set marks i false) i ≡ false
    unmarked = get_or-set_same marks i false false in_marks

    -- a mark that stayed is at another place
    stayed : (k : ℕ) → mark_at (set marks i false) k ≡ true → (k ≢ i) × (mark_at marks k ≡ true)
    stayed k on' = elim (same_or k i) [
      | inl e ↦ let clash : false ≡ true = sym unmarked ∙ rw e at on' in absurd (cc)
      | inr ne ↦ (ne, sym (get_or-set_other marks i k false false ne) ∙ on')
    ]

    -- a literal of the reason, but for the pivot, is of another variable
    other_variable : (m : ℕ) → Contains reason m → m ≢ l → variable_of m ≢ variable_of l
    other_variable m there ne same =
        let is : m ≡ opposite_of l = other_literal l m same ne in
        absent
        (rw (is, opposite_of-opposite_of l) at
        (All-contains (λ q. q ≢ l → Contains (take i row) (opposite_of q)) reason m forced.1 there ne))

    has' : (m : ℕ) → Contains next m
        → (k : ℕ) × (k < length row) × (mark_at new k ≡ true) × (m ≡ opposite_of (get_or row k 0))
    has' m there =
        let f = from_resolvent (variable_of l) d.current reason m there in
        elim f.0 [
          | inl c ↦
              let k = d.marked.has m c in
              let ne : k.0 ≢ i =
              (λ e. f.1
              (ap variable_of k.3 ∙ (variable_of-opposite_of (get_or row k.0 0))
              ∙ ap (λ n. variable_of (get_or row n 0)) e)) in
              (k.0, k.1, more.keeps k.0 (get_or-set_other marks i k.0 false false ne ∙ k.2), k.3)
          | inr c ↦ more.there m c (λ e. f.1 (ap variable_of e))
        ]

    gives' : (k : ℕ) → k < length row → mark_at new k ≡ true → Contains next (opposite_of (get_or row k 0))
    gives' k lk on' = elim (more.within k on') [
      | inl old ↦
          let s = stayed k old in
          into_resolvent (variable_of l) d.current reason (opposite_of (get_or row k 0)) (inl (d.marked.gives k lk s.1))
          (λ same. s.0 (apart k i lk inside (sym (variable_of-opposite_of (get_or row k 0)) ∙ same)))
      | inr m ↦
          rw (← m.4) (into_resolvent (variable_of l) d.current reason m.0 (inr m.2) (other_variable m.0 m.2 m.3))
    ]

    -- a mark from the place on stood after it before
    pub stays : (k : ℕ) → i ≤ k → mark_at new k ≡ true → (i < k) × (mark_at marks k ≡ true)
    stays k le on' = elim (more.within k on') [
      | inl old ↦
          let s = stayed k old in
          let ne : k ≢ i = s.0 in
          (omega arith, s.1)
      | inr m ↦
          let low =
          place_in row i (opposite_of m.0)
          (All-contains (λ q. q ≢ l → Contains (take i row) (opposite_of q)) reason m.0 forced.1 m.2 m.3) in
          let same : low.0 ≡ k =
          apart low.0 k low.2 m.1
          (ap variable_of low.3 ∙ ap (λ q. variable_of (opposite_of q)) m.4
          ∙ ap variable_of (opposite_of-opposite_of (get_or row k 0))) in
          absurd (omega (arith, low.1))
    ]

    -- a mark at another place stays
    pub others_stay : (k : ℕ) → k ≢ i → mark_at marks k ≡ true → mark_at new k ≡ true
    others_stay k ne on' = more.keeps k (get_or-set_other marks i k false false ne ∙ on')

    abbrev longer : List Step
    longer = steps ++ record { variable = variable_of l; clause = r } ∷ []

    pub reached_step : IsReachedClause clauses row new first longer
    reached_step = record {
      current = next;
      derived = chain_longer clauses (get_or clauses first []) d.current steps r (variable_of l) d.derived lt pivot;
      rises = IsStrictlyIncreasing-resolvent (variable_of l) d.current reason;
      marked = record { has = has'; gives = gives' };
      named =
          All-push (λ (s : Step). Contains (map variable_of row) s.variable) steps
          (record { variable = variable_of l; clause = r }) d.named
          (Contains-map variable_of row l (Contains-get_or row i 0 inside));
    }

    pub few_more : (n : ℕ) → length steps + (i + 1) ≤ n → length longer + i ≤ n
    few_more n few = omega (arith, length-append steps (record { variable = variable_of l; clause = r } ∷ []))

    -- a reason that the literals before a place settle has another literal from that place on
    pub reaches_step : (start : ℕ) → IsSettled (take start row) reason → start ≤ i
        → (k : ℕ) × (start ≤ k) × (mark_at new k ≡ true)
    reaches_step start (inl t) le =
        elim (same_or t.0 l) [
          | inl e ↦
              let k = place_in row start l (rw e at t.2) in
              let same : k.0 ≡ i = apart k.0 i k.2 inside (ap variable_of k.3) in absurd (omega (arith, k.1))
          | inr ne ↦
              absurd
              (consistent t.0 (first_in start t.0 t.2)
              (first_in i (opposite_of t.0)
              (All-contains (λ q. q ≢ l → Contains (take i row) (opposite_of q)) reason t.0 forced.1
              t.1 ne)))
        ] where
          first_in : (n x : ℕ) → Contains (take n row) x → Contains row x
          first_in n x h = Contains-take n row x h
    reaches_step start (inr t) le =
        elim (same_or t.0 l) [
          | inl e ↦ other t.1 t.3 (λ same. t.4 (e ∙ sym same)) t.6
          | inr ne ↦ other t.0 t.2 ne t.5
        ] where
          other : (m : ℕ) → Contains reason m → m ≢ l → IsFree (take start row) m
              → (k : ℕ) × (start ≤ k) × (mark_at new k ≡ true)
          other m there ne free =
              let k = more.there m there ne in
              elim (dec_lt k.0 start) [
                | yes low ↦
                    absurd
                    (free.1 (rw (k.3, opposite_of-opposite_of (get_or row k.0 0)) (in_take row start k.0 low k.1)))
                | no high ↦ (k.0, omega arith, k.2)
              ]

-- a resolved place, while none from there on is marked
pub derived_step : (clauses : List (List ℕ)) (row : List ℕ) → IsConsistent row → IsApart row
    → (marks : List Bool) (first : ℕ) (steps : List Step) (i : ℕ) (new : List Bool) (r : ℕ)
    → IsDerivedDownTo clauses row marks first steps (i + 1) → i < length row → i < length marks → mark_at marks i ≡ true
    → r < length clauses
    → IsStrictlyIncreasing (get_or clauses r []) → IsForcedBy (take i row) (get_or clauses r []) (get_or row i 0)
    → IsMarkedMore row (set marks i false) new (get_or clauses r []) (get_or row i 0)
    → IsDerivedDownTo clauses row new first (steps ++ record { variable = variable_of (get_or row i 0); clause = r } ∷
    []) i
derived_step clauses row consistent apart marks first steps i new r d inside in_marks on lt rises forced more = record {
  reached =
      reached_step clauses row consistent apart marks first steps i new r d.reached inside in_marks on lt rises
      forced more;
  above = λ k le. not_true (mark_at new k) (λ on'.
      let s =
      stays clauses row consistent apart marks first steps i new r d.reached inside in_marks on lt rises forced more
      k le on' in
      let clash : false ≡ true = sym (d.above k (omega (arith, s.0))) ∙ s.1 in
      cc);
  few =
      few_more clauses row consistent apart marks first steps i new r d.reached inside in_marks on lt rises forced more
      (length row) d.few;
}

-- a resolved place, while those from there on that are marked were decided
pub resolved_step : (clauses : List (List ℕ)) (es : List Entry) → IsConsistent (literals es) → IsApart (literals es)
    → (marks : List Bool) (first : ℕ) (steps : List Step) (i : ℕ) (new : List Bool) (r : ℕ)
    → IsResolved clauses es marks first steps (i + 1) → i < length (literals es) → i < length marks
    → mark_at marks i ≡ true → r < length clauses
    → IsStrictlyIncreasing (get_or clauses r [])
    → IsForcedBy (take i (literals es)) (get_or clauses r []) (get_or (literals es) i 0)
    → IsMarkedMore (literals es) (set marks i false) new (get_or clauses r []) (get_or (literals es) i 0)
    → IsResolved clauses es new first
    (steps ++ record { variable = variable_of (get_or (literals es) i 0); clause = r } ∷ []) i
resolved_step clauses es consistent apart marks first steps i new r d inside in_marks on lt rises forced more =
    let row = literals es in
    record {
      reached =
          reached_step clauses row consistent apart marks first steps i new r d.reached inside in_marks on lt rises
          forced more;
      decided = λ k e le on'.
          let s =
          stays clauses row consistent apart marks first steps i new r d.reached inside in_marks on lt rises forced
          more k le on' in
          d.decided k e (omega (arith, s.0)) s.1;
      few =
          few_more clauses row consistent apart marks first steps i new r d.reached inside in_marks on lt rises forced
          more (length es) d.few;
      reaches = λ start settled.
          let k = d.reaches start settled in
          elim (same_or k.0 i) [
            | inl e ↦
                reaches_step clauses row consistent apart marks first steps i new r d.reached inside in_marks on lt
                rises forced more start (All-get_or (IsSettled (take start row)) clauses r [] lt settled)
                (omega (arith, e, k.1))
            | inr ne ↦ (
              k.0,
              k.1,
              others_stay clauses row consistent apart marks first steps i new r d.reached inside in_marks on lt rises
                  forced more k.0 ne k.2,
            )
          ];
    }

-- a place that isn't marked, or was decided, is passed over
pub resolved_over : (clauses : List (List ℕ)) (es : List Entry) (marks : List Bool) (first : ℕ)
    (steps : List Step) (i : ℕ)
    → IsResolved clauses es marks first steps (i + 1)
    → ((d : Entry) → mark_at marks i ≡ true → (get_or es i d).reason ≡ None) → IsResolved clauses es marks first steps i
resolved_over clauses es marks first steps i d here = record {
  reached = d.reached;
  decided = λ k e le on. elim (same_or k i)
      [ inl same ↦ rw same (here e (rw same at on)) | inr ne ↦ d.decided k e (omega arith) on ];
  few = omega (arith, d.few);
  reaches = d.reaches;
}
