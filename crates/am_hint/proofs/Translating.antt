-- The places of one chain's hint, from its last step back to its first clause.
use Rattle.std.proofs.Common.{ℕ, suc, ◌≡◌, ◌+◌, ◌-◌, ◌<◌, ◌≤◌, Bool, true, false, List, [], ◌∷◌, ◌++◌, All, get_or}
use Rattle.std.proofs.Common.{length, take, map, refl, sym, ap, subst, ◌∙◌, append_assoc, length-append, arith}
use Rattle.std.specs.Prelude.{Contains, None, Ok, Some, slice_get}
use Rattle.std.proofs.lemmas.List.Elements.{Contains-push}
use Rattle.std.proofs.lemmas.Bool.{false≢true}
use Rattle.std.proofs.lemmas.List.{take_all}
use Rattle.std.proofs.lemmas.Option.{slice_get_within, get_or_from_slice_get}
use Rattle.am_lit.specs.Literal.{opposite_of}
use Rattle.am_lit.specs.SearchLaws.{IsFalseIn}
use Rattle.am_lit.specs.UnitRow.{IsConsistent}
use Rattle.am_chain.specs.declared.chain.Step.{Step}
use Rattle.am_chain.specs.declared.chain.Chain.{Chain}
use Rattle.am_chain.specs.ChainLaws.{IsRisingBelow}
use Rattle.am_chain.specs.Chains.{clause_of}
use Rattle.am_chain.specs.Checked.{Checked, all_clauses}
use Rattle.am_chain.specs.Resolvent.{resolvent}
use Rattle.am_chain.proofs.Laws.{chain_below, has_pivot_iff}
use Rattle.am_hint.specs.declared.status.Status.{Status}
use Rattle.am_hint.specs.declared.status.Status.TheVariants.{Conflict, Forces, Open}
use Rattle.am_hint.specs.Hints.{propagation_fault, status_of}
use Rattle.am_hint.specs.inside.Translated.{AreMoved, IsTakenBack, NewNumbers, clauses_before, new_number}
use Rattle.am_hint.proofs.Apart.{resolved_apart}
use Rattle.am_hint.proofs.CutChains.{cut_chain, first_there, last_step}
use Rattle.am_hint.proofs.Earlier.{All-before}
use Rattle.am_hint.proofs.Renumbered.{moved_there}
use Rattle.am_hint.proofs.Backwards.{IsForcedStatus, conflict, forces, passes, denied, false_back, false_stays}
use Rattle.am_hint.proofs.Backwards.{false_status, forced_back, forced_status}

-- the clause of a chain's first steps is false in a row, and holds no variable in both signs
pub record IsFalseAt (clauses : List (List ℕ)) (chain : Chain) (i : ℕ) (row : List ℕ) : Type 0 where
  pub current : List ℕ
  pub derived : clause_of clauses (cut_chain i chain) ≡ Ok current
  pub apart : IsConsistent current
  pub is_false : IsFalseIn row current

-- what a clause that a step names leaves of the row: the clause of the steps before it is false there
abbrev pub LeavesFalse : List (List ℕ) → Chain → ℕ → List ℕ → Status → Type 0
LeavesFalse clauses chain j row Conflict = Unit {0}
LeavesFalse clauses chain j row (Forces l) = IsFalseAt clauses chain j (row ++ l ∷ [])
LeavesFalse clauses chain j row Open = IsFalseAt clauses chain j row

-- a step names a clause that holds no variable in both signs, and it leads on to the steps before it
pub record IsNamed (clauses : List (List ℕ)) (chain : Chain) (j : ℕ) (row : List ℕ) (step : Step) : Type 0 where
  pub named : List ℕ
  pub there : slice_get clauses step.clause ≡ Some named
  pub apart : IsConsistent named
  pub leaves : LeavesFalse clauses chain j row (status_of row named)

module _ (vars : ℕ) (clauses : List (List ℕ)) (rising : All (IsRisingBelow vars) clauses) (chain : Chain) where
  rising_there : (n : ℕ) (c : List ℕ) → slice_get clauses n ≡ Some c → IsRisingBelow vars c
  rising_there n c there =
      rw (get_or_from_slice_get clauses n c c there) at (rising n c (slice_get_within clauses n c there))

  leaves_false : (j : ℕ) (row before : List ℕ) (q : ℕ) (status : Status)
      → clause_of clauses (cut_chain j chain) ≡ Ok before → IsConsistent before
      → (Contains row q → IsFalseIn row before) → IsFalseIn (row ++ q ∷ []) before → IsForcedStatus row q status
      → LeavesFalse clauses chain j row status
  leaves_false j row before q _ e apart now later conflict = tt
  leaves_false j row before q _ e apart now later forces =
      record { current = before; derived = e; apart = apart; is_false = later }
  leaves_false j row before q _ e apart now later (passes h) =
      record { current = before; derived = e; apart = apart; is_false = now h }

  step_back : (j : ℕ) (d : Step) (row : List ℕ) → j < length chain.steps → IsFalseAt clauses chain (suc j) row
      → IsNamed clauses chain j row (get_or chain.steps j d)
  step_back j d row lt at =
      let last = last_step clauses chain j d at.current lt at.derived in
      let step = get_or chain.steps j d in
      let before = last.0 in
      let r = last.2 in
      let named = r.named in
      let first_rising = chain_below vars clauses rising (cut_chain j chain) before last.1 in
      let second_rising = rising_there step.clause named r.there in
      let both = resolved_apart step.variable before named first_rising.rising second_rising.rising r.pivot
      (rw (← r.is) at at.apart) in
      let p = (has_pivot_iff step.variable before named first_rising.rising second_rising.rising).0 r.pivot in
      let q = opposite_of p.0 in
      let is_false : IsFalseIn row (resolvent step.variable before named) = rw (← r.is) at at.is_false in
      let later = false_back (row ++ q ∷ []) step.variable p.0 before named p.1 p.2
      (false_stays row (resolvent step.variable before named) q is_false) (Contains-push row q) in
      record {
        named = named;
        there = r.there;
        apart = both.1;
        leaves =
            leaves_false j row before q (status_of row named) last.1 both.0
            (false_back row step.variable p.0 before named p.1 p.2 is_false) later
            (forced_status row named q second_rising.rising
            (forced_back row step.variable p.0 before named p.1 p.2 is_false));
      }

  back_from : (i : ℕ) (row : List ℕ) (step : Step) → 0 < i → slice_get chain.steps (i - 1) ≡ Some step
      → IsFalseAt clauses chain i row
      → IsNamed clauses chain (i - 1) row step
  back_from i row step pos there at =
      let e : i ≡ suc (i - 1) = omega arith in
      let now : IsFalseAt clauses chain (suc (i - 1)) row = subst (λ n. IsFalseAt clauses chain n row) e at in
      rw (get_or_from_slice_get chain.steps (i - 1) step step there) at
      (step_back (i - 1) step row (slice_get_within chain.steps (i - 1) step there) now)

  -- a chain starts with its clause, which is denied
  pub all_false : (c : List ℕ) → clause_of clauses chain ≡ Ok c → IsConsistent c
      → IsFalseAt clauses chain (length chain.steps) (map opposite_of c)
  all_false c e apart = record {
    current = c;
    derived =
        (let whole : take (length chain.steps) chain.steps ≡ chain.steps =
        take_all (length chain.steps) chain.steps (omega arith) in
        rw whole e);
    apart = apart;
    is_false = denied c;
  }

-- the step before a false clause, where all clauses of a checker are in order
pub back_at : (k : Checked) (count vars : ℕ) (chain : Chain) (i : ℕ) (row : List ℕ) (step : Step)
    → All (IsRisingBelow vars) (all_clauses k) → 0 < i → slice_get chain.steps (i - 1) ≡ Some step
    → IsFalseAt (clauses_before k count) chain i row → IsNamed (clauses_before k count) chain (i - 1) row step
back_at k count vars chain i row step rising =
    back_from vars (clauses_before k count) (All-before k count (IsRisingBelow vars) rising) chain i row step

-- what the first numbers make of a row leads to what they make of it with any more
abbrev pub LeadsTo : List (List ℕ) → List (List ℕ) → List ℕ → List ℕ → List ℕ → List ℕ → Type 0
LeadsTo given derived numbers start by row = (hinted : List (List ℕ)) → AreMoved given derived hinted numbers
    → (more : List ℕ)
    → propagation_fault (given ++ hinted) start 0 (by ++ more)
    ≡ propagation_fault (given ++ hinted) row (length by) more

-- the numbers end with yes
abbrev pub Passes : List (List ℕ) → List (List ℕ) → List ℕ → List ℕ → List ℕ → Type 0
Passes given derived numbers start by =
    (hinted : List (List ℕ)) → AreMoved given derived hinted numbers
    → propagation_fault (given ++ hinted) start 0 by ≡ None

module _ (given derived : List (List ℕ)) (numbers : NewNumbers) (same : numbers.given ≡ length given)
    (start by row : List ℕ) (leads : LeadsTo given derived numbers.chains start by row)
    (name : ℕ) (named : List ℕ) (there : slice_get (given ++ derived) name ≡ Some named)
    (apart : IsConsistent named) where
  found : (hinted : List (List ℕ)) → AreMoved given derived hinted numbers.chains
      → slice_get (given ++ hinted) (new_number numbers name) ≡ Some named
  found hinted are = moved_there given derived hinted numbers.chains are numbers.given name named same there apart

  -- a false clause ends the list
  pub ends_there : status_of row named ≡ Conflict
      → Passes given derived numbers.chains start (by ++ new_number numbers name ∷ [])
  ends_there e hinted are = leads hinted are (new_number numbers name ∷ []) ∙ rw (found hinted are, e) refl

  -- a clause that forces a literal leads to the row with it
  pub leads_on : (l : ℕ) → status_of row named ≡ Forces l
      → LeadsTo given derived numbers.chains start (by ++ new_number numbers name ∷ []) (row ++ l ∷ [])
  leads_on l e hinted are more =
      let number = new_number numbers name in
      let len : length (by ++ number ∷ []) ≡ length by + 1 = omega (arith, length-append by (number ∷ [])) in
      let step : propagation_fault (given ++ hinted) row (length by) (number ∷ more)
      ≡ propagation_fault (given ++ hinted) (row ++ l ∷ []) (length by + 1) more = rw (found hinted are, e) refl in
      rw (append_assoc by (number ∷ []) more, len) (leads hinted are (number ∷ more) ∙ step)

-- what a test of one clause leaves: the list ends, or leads on to the steps before it
pub record IsOneBack (given derived : List (List ℕ)) (numbers : List ℕ) (chain : Chain) (j : ℕ)
    (start by_new row_new : List ℕ) : Type 0 where
  pub back : IsFalseAt (given ++ derived) chain j row_new
  pub leads : LeadsTo given derived numbers start by_new row_new

module _ (given derived : List (List ℕ)) (numbers : NewNumbers) (same : numbers.given ≡ length given) (chain : Chain)
    (j : ℕ) (start by row : List ℕ) (leads : LeadsTo given derived numbers.chains start by row)
    (step : Step) (n : IsNamed (given ++ derived) chain j row step) where
  -- a clause that ends the list
  pub taken_last : (by_new row_new : List ℕ)
      → IsTakenBack (status_of row n.named) (new_number numbers step.clause) true by by_new row row_new
      → Passes given derived numbers.chains start by_new
  taken_last by_new row_new taken = go (status_of row n.named) refl taken where
    go : (s : Status) → status_of row n.named ≡ s
        → IsTakenBack s (new_number numbers step.clause) true by by_new row row_new
        → Passes given derived numbers.chains start by_new
    go Conflict e t =
        rw t.1 (ends_there given derived numbers same start by row leads step.clause n.named n.there n.apart e)
    go (Forces l) e t = absurd (false≢true (sym t.0))
    go Open e t = absurd (false≢true (sym t.0))

  -- a clause that doesn't
  pub taken_back : (by_new row_new : List ℕ)
      → IsTakenBack (status_of row n.named) (new_number numbers step.clause) false by by_new row row_new
      → IsOneBack given derived numbers.chains chain j start by_new row_new
  taken_back by_new row_new taken = go (status_of row n.named) refl n.leaves taken where
    go : (s : Status) → status_of row n.named ≡ s → LeavesFalse (given ++ derived) chain j row s
        → IsTakenBack s (new_number numbers step.clause) false by by_new row row_new
        → IsOneBack given derived numbers.chains chain j start by_new row_new
    go Conflict e leaves t = absurd (false≢true t.0)
    go (Forces l) e leaves t = record {
      back = rw t.2 leaves;
      leads =
          rw (t.1, t.2)
          (leads_on given derived numbers same start by row leads step.clause n.named n.there n.apart l e);
    }
    go Open e leaves t = record { back = rw t.2 leaves; leads = rw (t.1, t.2) leads }

-- a clause adds one number at most
pub taken_length : (status : Status) (number : ℕ) (ends : Bool) (by by_new row row_new : List ℕ)
    → IsTakenBack status number ends by by_new row row_new
    → length by_new ≤ length by + 1
taken_length Conflict number ends by by_new row row_new t = omega (arith, ap length t.1, length-append by (number ∷ []))
taken_length (Forces l) number ends by by_new row row_new t =
    omega (arith, ap length t.1, length-append by (number ∷ []))
taken_length Open number ends by by_new row row_new t = omega (arith, ap length t.1)

-- the first clause ends the list
pub first_last : (given derived : List (List ℕ)) (numbers : NewNumbers) → numbers.given ≡ length given
    → (chain : Chain) (start by row : List ℕ) → LeadsTo given derived numbers.chains start by row
    → IsFalseAt (given ++ derived) chain 0 row
    → Passes given derived numbers.chains start (by ++ new_number numbers chain.first ∷ [])
first_last given derived numbers same chain start by row leads at =
    ends_there given derived numbers same start by row leads chain.first at.current
    (first_there (given ++ derived) chain at.current at.derived) at.apart (false_status row at.current at.is_false)
