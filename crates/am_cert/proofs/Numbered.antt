-- The numbers in valid chains: those of clauses that are there, and those of variables of a formula.
use Rattle.std.proofs.Common.{◌≡◌, ℕ, ◌+◌, ◌<◌, ◌≤◌, Bool, true, false, cond, List, [], ◌∷◌, ◌++◌, All, length}
use Rattle.std.proofs.Common.{length-append, get_or, arith, refl, ap, inl, inr}
use Rattle.std.specs.Prelude.{Result, Ok, Err, Option, None, Some, slice_get}
use Rattle.std.specs.Option.{ok_or}
use Rattle.std.proofs.lemmas.Option.{get_or_from_slice_get, slice_get_within}
use Rattle.std.proofs.lemmas.List.Elements.{All-append, All-cons, All-contains, All-nil, All-push, All-weaker}
use Rattle.std.proofs.lemmas.List.Elements.{Contains-get_or}
use Rattle.am_lit.specs.Literal.{variable_of}
use Rattle.am_lit.specs.Clause.{IsFormula}
use Rattle.am_chain.specs.declared.chain.Step.{Step}
use Rattle.am_chain.specs.declared.chain.Chain.{Chain}
use Rattle.am_chain.specs.declared.fault.Why.TheVariants.{NoPivot}
use Rattle.am_chain.specs.ChainLaws.{IsRisingBelow}
use Rattle.am_chain.specs.Chains.{Outcome, after_step, after_steps, clause_of, fault, match_result, numbered_clause}
use Rattle.am_chain.specs.Chains.{resolution_of}
use Rattle.am_chain.specs.Replay.{DerivesClauses, replay}
use Rattle.am_chain.specs.Resolvent.{has_pivot, resolvent}
use Rattle.am_chain.proofs.Laws.{IsStrictlyIncreasing-resolvent, chain_below, formula_below, from_resolvent}
use Rattle.am_chain.proofs.Laws.{has_pivot_iff}

-- a step names a variable and a clause below these numbers
pub record IsStepBelow (vars count : ℕ) (step : Step) : Type 0 where
  pub variable : step.variable < vars
  pub clause : step.clause < count

-- a chain begins with a clause below a number, and so does each of its steps
pub record IsChainBelow (vars count : ℕ) (chain : Chain) : Type 0 where
  pub first : chain.first < count
  pub steps : All (IsStepBelow vars count) chain.steps

-- ---- parts that are Ok

some_of_ok : {A E : Type 0} (o : Option A) (e : E) (x : A) → ok_or o e ≡ Ok x → o ≡ Some x
some_of_ok None e x h = cc
some_of_ok (Some y) e x h = let same : y ≡ x = cc in ap Some same

ok_parts : {T E F A : Type 0} (r : Result T E) (next : T → Result A F) (wrap : E → F) (y : A) →
    match_result r next (λ e. Err (wrap e)) ≡ Ok y → (x : T) × (r ≡ Ok x) × (next x ≡ Ok y)
ok_parts (Ok x) next wrap y h = (x, refl, h)
ok_parts (Err e) next wrap y h = cc

-- ---- one chain

module _ (vars : ℕ) (clauses : List (List ℕ)) (ordered : All (IsRisingBelow vars) clauses) where
  -- a clause that was found by its number
  record IsFound (place : ℕ) (c : List ℕ) : Type 0 where
    inside : place < length clauses
    is : IsRisingBelow vars c

  found : (place number : ℕ) (c : List ℕ) → numbered_clause clauses place number ≡ Ok c → IsFound number c
  found place number c e =
      let is = some_of_ok (slice_get clauses number) _ c e in
      let within = slice_get_within clauses number c is in
      record { inside = within; is = rw (get_or_from_slice_get clauses number c c is) at (ordered number c within) }

  abbrev IsBelow : ℕ → Type 0
  IsBelow l = variable_of l < vars

  resolvent_below : (v : ℕ) (c d : List ℕ) → All IsBelow c → All IsBelow d → All IsBelow (resolvent v c d)
  resolvent_below v c d one two i e l =
      let r = resolvent v c d in
      elim (from_resolvent v c d (get_or r i e) (Contains-get_or r i e l)).0 as (λ _. IsBelow (get_or r i e)) [
        | inl first ↦ All-contains IsBelow c (get_or r i e) one first
        | inr second ↦ All-contains IsBelow d (get_or r i e) two second
      ]

  -- a clause that was resolved on a variable
  record IsResolved (v : ℕ) (r : List ℕ) : Type 0 where
    below : v < vars
    is : IsRisingBelow vars r

  resolved : (place v : ℕ) (c d r : List ℕ) → IsRisingBelow vars c → IsRisingBelow vars d →
      resolution_of place v c d ≡ Ok r → IsResolved v r
  resolved place v c d r one two e = go (has_pivot v c d) refl e where
    go : (b : Bool) → has_pivot v c d ≡ b →
        cond {A = Outcome} b (Ok (resolvent v c d)) (Err (fault place NoPivot)) ≡ Ok r → IsResolved v r
    go true pivots is =
        let same : resolvent v c d ≡ r = cc in
        let pivot = (has_pivot_iff v c d one.rising two.rising).0 pivots in
        let here = All-contains IsBelow c pivot.0 one.below pivot.2.first in
        rw (← same) (record {
          below = rw pivot.1 at here;
          is = record {
            rising = IsStrictlyIncreasing-resolvent v c d;
            below = resolvent_below v c d one.below two.below;
          };
        })
    go false pivots is = cc

  steps_below : (place : ℕ) (c r : List ℕ) (steps : List Step) → IsRisingBelow vars c →
      after_steps clauses place c steps ≡ Ok r → All (IsStepBelow vars (length clauses)) steps
  steps_below place c r [] is e = All-nil (IsStepBelow vars (length clauses))
  steps_below place c r (step ∷ steps) is e =
      let one = ok_parts (after_step clauses place c step) (λ next. after_steps clauses (place + 1) next steps)
      (λ f. f) r e in
      let other = ok_parts (numbered_clause clauses place step.clause) (λ d. resolution_of place step.variable c d)
      (λ f. f)
      one.0 one.1 in
      let second = found place step.clause other.0 other.1 in
      let next = resolved place step.variable c other.0 one.0 is second.is other.2 in
      All-cons (IsStepBelow vars (length clauses)) step steps
      (record { variable = next.below; clause = second.inside }) (steps_below (place + 1) one.0 r steps next.is one.2)

  -- a valid chain names clauses that are there, and variables below the number
  pub chain_numbers : (chain : Chain) (r : List ℕ) → clause_of clauses chain ≡ Ok r →
      IsChainBelow vars (length clauses) chain
  chain_numbers chain r e =
      let first = ok_parts (numbered_clause clauses 0 chain.first) (λ c. after_steps clauses 1 c chain.steps)
      (λ f. f) r e in
      let one = found 0 chain.first first.0 first.1 in
      record { first = one.inside; steps = steps_below 1 first.0 r chain.steps one.is first.2 }

-- ---- a log

-- larger numbers of clauses
chain_more : (vars m n : ℕ) → m ≤ n → (chain : Chain) → IsChainBelow vars m chain → IsChainBelow vars n chain
chain_more vars m n more chain is = record {
  first = omega (arith, is.first, more);
  steps = All-weaker (IsStepBelow vars m) (IsStepBelow vars n)
      (λ step below. record { variable = below.variable; clause = omega (arith, below.clause, more) })
      chain.steps is.steps;
}

module _ (vars : ℕ) (given : List (List ℕ)) (ordered : All (IsRisingBelow vars) given) where
  replay_numbers : (derived all : List (List ℕ)) (log : List Chain) (most : ℕ) → All (IsRisingBelow vars) derived →
      length given + length derived + length log ≤ most → replay given derived log ≡ Ok all →
      All (IsChainBelow vars most) log
  replay_numbers derived all [] most is few e = All-nil (IsChainBelow vars most)
  replay_numbers derived all (chain ∷ log) most is few e =
      let so_far = given ++ derived in
      let one = ok_parts (clause_of so_far chain) (λ clause. replay given (derived ++ clause ∷ []) log)
      (λ f. record { chain = length derived; fault = f }) all e in
      let both = All-append (IsRisingBelow vars) given derived ordered is in
      let next = chain_below vars so_far both chain one.0 one.1 in
      let fewer : length so_far ≤ most = omega (arith, length-append given derived, few) in
      let further : length given + length (derived ++ one.0 ∷ []) + length log ≤ most =
      omega (arith, length-append derived (one.0 ∷ []), few) in
      All-cons (IsChainBelow vars most) chain log
      (chain_more vars (length so_far) most fewer chain (chain_numbers vars so_far both chain one.0 one.1))
      (replay_numbers (derived ++ one.0 ∷ []) all log most
      (All-push (IsRisingBelow vars) derived one.0 is next) further one.2)

-- a valid log names clauses of the formula and of its chains, and variables of the formula
pub log_numbers : (vars most : ℕ) (clauses derived : List (List ℕ)) (log : List Chain) → IsFormula clauses vars →
    DerivesClauses clauses log derived → length clauses + length log ≤ most → All (IsChainBelow vars most) log
log_numbers vars most clauses derived log normal derives few =
    replay_numbers vars clauses (formula_below vars clauses normal) [] derived log most (All-nil (IsRisingBelow vars))
    (omega (arith, few)) derives
