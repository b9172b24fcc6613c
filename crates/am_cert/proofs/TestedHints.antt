-- Hints that are tested one after another, and the hints of a certificate.
use Rattle.std.proofs.Common.{◌≡◌, ℕ, ◌+◌, ◌^◌, ◌<◌, ◌≤◌, List, [], ◌∷◌, ◌++◌, drop, get_or, take, length, sym, ◌∙◌, ap}
use Rattle.std.proofs.Common.{subst, arith}
use Rattle.std.specs.Prelude.{None, Some, Option, slice_get}
use Rattle.std.proofs.lemmas.List.{drop_more, length-take, map-append, take-append-drop, take_all, take_more}
use Rattle.std.proofs.lemmas.List.Elements.{All-nil}
use Rattle.std.proofs.lemmas.Option.{get_or_from_slice_get, slice_get_within}
use Rattle.am_chain.specs.Replay.{EndsEmpty}
use Rattle.am_hint.proofs.Laws.{first_hint_faults_stand, hints_grow}
use Rattle.am_hint.specs.Hinted.{IsHintFaultOf}
use Rattle.am_hint.specs.HintReplay.{AllPass, hint_clauses}
use Rattle.am_hint.specs.Hints.{hint_fault}
use Rattle.am_hint.specs.declared.fault.HintError.{HintError}
use Rattle.am_hint.specs.declared.fault.HintError.TheVariants.{Fault}
use Rattle.am_hint.specs.declared.fault.HintFault.{HintFault}
use Rattle.am_hint.specs.declared.hint.Hint.{Hint}
use Rattle.am_query.proofs.Laws.{hints_are_tested_in_turn}
use Rattle.am_query.specs.Acceptance.{hints_refute}
use Rattle.am_query.specs.declared.fault.Fault.TheVariants.{BadHint, NotEmpty}
use Rattle.am_query.specs.declared.outcome.Outcome.{Outcome}
use Rattle.am_query.specs.declared.outcome.Outcome.TheVariants.{Absent, Best, Conflicts, Turns}
use Rattle.am_cert.specs.Certificate.{AreHints, AreHintsOf, AreProofsOf, IsHint}
use Rattle.am_cert.specs.declared.answer.Proofs.{Proofs}
use Rattle.am_cert.specs.declared.answer.Proofs.TheVariants.{Hinted}
use Rattle.am_cert.specs.declared.version.Version.{Version}

module _ (vars : ℕ) (clauses : List (List ℕ)) (hints : List Hint) (k : ℕ) (passed : AllPass vars clauses (take k hints))
  where
    -- all hints were tested
    whole : length hints ≤ k → AllPass vars clauses hints
    whole past = subst (λ (hs : List Hint). AllPass vars clauses hs) (take_all k hints past) passed

    -- where all hints pass and the last clause is empty, they refute
    pub hints_end_empty : (j : ℕ) → length hints ≤ k → EndsEmpty (hint_clauses (take k hints)) →
        (hints_refute j vars clauses hints).Passes
    hints_end_empty j past empty =
        (whole past, subst (λ (hs : List Hint). EndsEmpty (hint_clauses hs)) (take_all k hints past) empty)

    pub hints_end_full : (j : ℕ) → length hints ≤ k → ¬ EndsEmpty (hint_clauses (take k hints)) →
        (hints_refute j vars clauses hints).Fails (NotEmpty j)
    hints_end_full j past full =
        (hints_are_tested_in_turn j vars clauses hints).1 (whole past)
        (subst (λ (hs : List Hint). ¬ EndsEmpty (hint_clauses hs)) (take_all k hints past) full)

    module _ (hint : Hint) (there : slice_get hints k ≡ Some hint) where
      within : k < length hints
      within = slice_get_within hints k hint there

      here : get_or hints k hint ≡ hint
      here = get_or_from_slice_get hints k hint hint there

      further : take (k + 1) hints ≡ take k hints ++ hint ∷ []
      further = take_more hints k hint within ∙ ap (λ (h : Hint). take k hints ++ h ∷ []) here

      -- a hint that passes after the others
      pub one_passes : hint_fault vars (clauses ++ hint_clauses (take k hints)) hint ≡ None →
          AllPass vars clauses (take (k + 1) hints)
      one_passes passes =
          subst (λ (hs : List Hint). AllPass vars clauses hs) (sym further)
          (hints_grow vars clauses (take k hints) hint passed passes)

      -- one hint more adds its clause
      pub one_clause : hint_clauses (take (k + 1) hints) ≡ hint_clauses (take k hints) ++ hint.clause ∷ []
      one_clause = ap hint_clauses further ∙ map-append (λ (h : Hint). h.clause) (take k hints) (hint ∷ [])

      -- the fault of a hint is the whole list's
      pub hint_fails : (j : ℕ) (f : HintFault) → hint_fault vars (clauses ++ hint_clauses (take k hints)) hint ≡ Some f
          →
          (hints_refute j vars clauses hints).Fails (BadHint j k f.place f.why)
      hint_fails j f bad =
          let rest : drop k hints ≡ hint ∷ drop (k + 1) hints =
          drop_more hints k hint within ∙ ap (λ (h : Hint). h ∷ drop (k + 1) hints) here in
          let split : take k hints ++ hint ∷ drop (k + 1) hints ≡ hints =
          ap (λ (hs : List Hint). take k hints ++ hs) (sym rest) ∙ take-append-drop k hints in
          let first = first_hint_faults_stand vars clauses (take k hints) (drop (k + 1) hints) hint f passed bad in
          let count : length (take k hints) ≡ k = omega (arith, length-take k hints, within) in
          (hints_are_tested_in_turn j vars clauses hints).0 (record { hint = k; fault = f })
          (rw (split, count) at first)

-- an error that is a fault is the hint's
pub hint_fault_of : (found : Option HintFault) (e : HintError) (f : HintFault) → IsHintFaultOf found e → e ≡ Fault f →
    found ≡ Some f
hint_fault_of found e f h is = rw is at h

-- the places of a hint of a list that isn't too long
pub few_places : (hints : List Hint) (k : ℕ) (hint : Hint) → AreHints hints → slice_get hints k ≡ Some hint →
    length hint.by < 2 ^ 32
few_places hints k hint are there =
    let within = slice_get_within hints k hint there in
    let here = get_or_from_slice_get hints k hint hint there in
    let is : IsHint hint = rw here at (are.each k hint within) in
    omega (arith, is.places.few)

-- ---- the hints of a certificate

none_bounded : AreHints []
none_bounded = record { few = omega arith; each = All-nil IsHint }

lists_bounded : (o : Outcome) (first second : List Hint) → AreHintsOf o first second → AreHints first × AreHints second
lists_bounded (Best t trace [] []) first second are = are
lists_bounded (Best t trace [] (c ∷ best_log)) first second are = absurd are
lists_bounded (Best t trace (c ∷ sound_log) best_log) first second are = absurd are
lists_bounded (Absent trace []) first [] are = (are, none_bounded)
lists_bounded (Absent trace []) first (h ∷ second) are = absurd are
lists_bounded (Absent trace (c ∷ log)) first second are = absurd are
lists_bounded (Turns trace) first second are = absurd are
lists_bounded (Conflicts trace asked log) first second are = absurd are

-- both lists aren't too long
pub hints_bounded : (v : Version) (o : Outcome) (proofs : Proofs) (first second : List Hint) → AreProofsOf v o proofs →
    proofs ≡ Hinted first second → AreHints first × AreHints second
hints_bounded v o proofs first second are is = lists_bounded o first second (rw is at are).1
