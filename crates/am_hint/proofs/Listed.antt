-- Lists of hints: their first fault, and what they show.
use Rattle.std.proofs.Common.{ℕ, ◌≡◌, ◌+◌, List, [], ◌∷◌, ◌++◌, All, length, append_assoc, append-nil, arith, refl, sym}
use Rattle.std.specs.Prelude.{Option, Some, None}
use Rattle.std.proofs.lemmas.List.Elements.{All-nil, All-push, Contains-push}
use Rattle.am_lit.specs.Truth.{Implies, IsSatisfiable}
use Rattle.am_chain.proofs.Laws.{implied_by_given, none_satisfies}
use Rattle.am_hint.specs.declared.fault.HintFault.{HintFault}
use Rattle.am_hint.specs.declared.hint.Hint.{Hint}
use Rattle.am_hint.specs.Hints.{hint_fault, match_option}
use Rattle.am_hint.specs.HintReplay.{AllPass, HintsFault, HintsRefute, hint_clauses, hints_fault}
use Rattle.am_hint.proofs.Sound.{hints_are_sound}

-- the clauses after a hint
abbrev with_clause : List (List ℕ) → Hint → List (List ℕ)
with_clause clauses hint = clauses ++ hint.clause ∷ []

-- the fault of a hint with a number
abbrev fault_at : ℕ → HintFault → HintsFault
fault_at number f = record { hint = number; fault = f }

-- the clause of a hint stands before those of the hints after it
clauses_after : (clauses : List (List ℕ)) (first : Hint) (hints : List Hint)
    → with_clause clauses first ++ hint_clauses hints ≡ clauses ++ hint_clauses (first ∷ hints)
clauses_after clauses first hints = append_assoc clauses (first.clause ∷ []) (hint_clauses hints)

-- where a list has no fault, its first hint passes, and the others have none after it
passed : (outcome : Option HintFault) (number : ℕ) (rest : Option HintsFault)
    → match_option outcome rest (λ f. Some (fault_at number f)) ≡ None → (outcome ≡ None) × (rest ≡ None)
passed None number rest e = (refl, e)
passed (Some f) number rest e = cc

module _ (vars : ℕ) where
  first_passed : (clauses : List (List ℕ)) (number : ℕ) (first : Hint) (hints : List Hint)
      → hints_fault vars clauses number (first ∷ hints) ≡ None
      → (hint_fault vars clauses first ≡ None)
      × (hints_fault vars (with_clause clauses first) (number + 1) hints ≡ None)
  first_passed clauses number first hints e =
      passed (hint_fault vars clauses first) number (hints_fault vars (with_clause clauses first) (number + 1) hints) e

  -- a list without a fault has none with a further hint that passes after it
  no_fault-push : (clauses : List (List ℕ)) (number : ℕ) (hints : List Hint) (hint : Hint)
      → hints_fault vars clauses number hints ≡ None → hint_fault vars (clauses ++ hint_clauses hints) hint ≡ None
      → hints_fault vars clauses number (hints ++ hint ∷ []) ≡ None
  no_fault-push clauses number [] hint e h =
      let passes : hint_fault vars clauses hint ≡ None = rw append-nil at h in
      rw passes refl
  no_fault-push clauses number (first ∷ hints) hint e h =
      let one = first_passed clauses number first hints e in
      let after : hint_fault vars (with_clause clauses first ++ hint_clauses hints) hint ≡ None =
      rw (clauses_after clauses first hints) h in
      rw one.0 (no_fault-push (with_clause clauses first) (number + 1) hints hint one.1 after)

  -- the fault of a hint after hints that pass is the list's first
  fault_after : (clauses : List (List ℕ)) (number : ℕ) (before after : List Hint) (hint : Hint) (f : HintFault)
      → hints_fault vars clauses number before ≡ None → hint_fault vars (clauses ++ hint_clauses before) hint ≡ Some f
      → hints_fault vars clauses number (before ++ hint ∷ after) ≡ Some (fault_at (number + length before) f)
  fault_after clauses number [] after hint f e h =
      let fails : hint_fault vars clauses hint ≡ Some f = rw append-nil at h in
      let count : number + 0 ≡ number = omega arith in
      rw (fails, count) refl
  fault_after clauses number (first ∷ before) after hint f e h =
      let one = first_passed clauses number first before e in
      let fails : hint_fault vars (with_clause clauses first ++ hint_clauses before) hint ≡ Some f =
      rw (clauses_after clauses first before) h in
      let later = fault_after (with_clause clauses first) (number + 1) before after hint f one.1 fails in
      let count : (number + 1) + length before ≡ number + length (first ∷ before) = omega arith in
      rw one.0 (rw count at later)

  -- the clauses of hints that pass follow from the given ones
  clauses_implied : (given before : List (List ℕ)) (number : ℕ) (hints : List Hint) → All (Implies given) before
      → hints_fault vars (given ++ before) number hints ≡ None → All (Implies given) (before ++ hint_clauses hints)
  clauses_implied given before number [] follow e = rw append-nil follow
  clauses_implied given before number (first ∷ hints) follow e =
      let one = first_passed (given ++ before) number first hints e in
      let follows = hints_are_sound vars (given ++ before) first one.0 in
      let implied = implied_by_given given before first.clause follow follows in
      let more = All-push (Implies given) before first.clause follow implied in
      let rest : hints_fault vars (given ++ with_clause before first) (number + 1) hints ≡ None =
      rw (sym (append_assoc given before (first.clause ∷ []))) one.1 in
      rw (sym (clauses_after before first hints))
      (clauses_implied given (with_clause before first) (number + 1) hints more rest)

  -- where all hints pass, and a further one passes after them, all pass with it
  pub hints_grow : (clauses : List (List ℕ)) (hints : List Hint) (hint : Hint) → AllPass vars clauses hints
      → hint_fault vars (clauses ++ hint_clauses hints) hint ≡ None → AllPass vars clauses (hints ++ hint ∷ [])
  hints_grow clauses hints hint e h = no_fault-push clauses 0 hints hint e h

  -- where the hints before one pass and that one doesn't, its fault is the list's first
  pub first_hint_faults_stand : (clauses : List (List ℕ)) (before after : List Hint) (hint : Hint) (f : HintFault)
      → AllPass vars clauses before → hint_fault vars (clauses ++ hint_clauses before) hint ≡ Some f
      → hints_fault vars clauses 0 (before ++ hint ∷ after) ≡ Some (fault_at (length before) f)
  first_hint_faults_stand clauses before after hint f e h =
      let count : 0 + length before ≡ length before = omega arith in
      rw count at (fault_after clauses 0 before after hint f e h)

  -- hints that refute clauses leave them no satisfying assignment
  pub hint_refutations_are_sound : (clauses : List (List ℕ)) (hints : List Hint) → HintsRefute vars clauses hints
      → ¬ (IsSatisfiable clauses)
  hint_refutations_are_sound clauses hints r =
      let pass : hints_fault vars (clauses ++ []) 0 hints ≡ None = rw append-nil r.0 in
      let implied = clauses_implied clauses [] 0 hints (All-nil (Implies clauses)) pass in
      none_satisfies clauses (hint_clauses hints) implied (rw r.1.1 (Contains-push r.1.0 []))
