-- Clauses of chains strictly increase, and stay below the variables of the formula.
use Rattle.std.proofs.Common.{◌≡◌, ℕ, ◌+◌, ◌<◌, Bool, true, false, cond, not, eqb, List, [], ◌∷◌, ◌++◌, All}
use Rattle.std.specs.Prelude.{Ok, Err, slice_get}
use Rattle.std.proofs.lemmas.Option.{slice_get_within, get_or_from_slice_get}
use Rattle.std.proofs.lemmas.List.Elements.{All-append, All-filter, All-push, All-weaker}
use Rattle.am_lit.specs.Literal.{variable_of}
use Rattle.am_lit.specs.Clause.{IsFormula, IsNormal}
use Rattle.am_lit.proofs.Laws.{All-sorted_literals}
use Rattle.am_chain.specs.declared.chain.Step.{Step}
use Rattle.am_chain.specs.declared.chain.Chain.{Chain}
use Rattle.am_chain.specs.Resolvent.{has_pivot, others, resolvent}
use Rattle.am_chain.specs.Chains.{Outcome, after_step, after_steps, clause_of, fault, numbered_clause, resolution_of}
use Rattle.am_chain.specs.declared.fault.Why.TheVariants.{NoPivot}
use Rattle.am_chain.specs.ChainLaws.{IsRisingBelow}
use Rattle.am_chain.specs.Replay.{replay}
use Rattle.am_chain.proofs.Merging.{IsStrictlyIncreasing-resolvent}
use Rattle.am_chain.proofs.Sound.{ok_parts, some_of_ok}

resolvent_below : (vars v : ℕ) (c d : List ℕ) → All (λ l. variable_of l < vars) c → All (λ l. variable_of l < vars) d
    → All (λ l. variable_of l < vars) (resolvent v c d)
unfolding resolvent
resolvent_below vars v c d h k =
    let below = λ (l : ℕ). variable_of l < vars in
    let p = λ (l : ℕ). not (eqb (variable_of l) v) in
    All-sorted_literals below (others v c ++ others v d)
    (All-append below (others v c) (others v d) (All-filter p below c h) (All-filter p below d k))

module _ (vars : ℕ) (clauses : List (List ℕ)) (ordered : All (IsRisingBelow vars) clauses) where
  numbered_below : (place number : ℕ) (c : List ℕ) → numbered_clause clauses place number ≡ Ok c → IsRisingBelow vars c
  numbered_below place number c e =
      let is = some_of_ok (slice_get clauses number) _ c e in
      rw (get_or_from_slice_get clauses number c c is) at (ordered number c (slice_get_within clauses number c is))

  resolution_below : (place v : ℕ) (c d r : List ℕ) → IsRisingBelow vars c → IsRisingBelow vars d
      → resolution_of place v c d ≡ Ok r
      → IsRisingBelow vars r
  resolution_below place v c d r p q e = go (has_pivot v c d) e where
    go : (b : Bool) → cond {A = Outcome} b (Ok (resolvent v c d)) (Err (fault place NoPivot)) ≡ Ok r
        → IsRisingBelow vars r
    go true is =
        let same : resolvent v c d ≡ r = cc in
        rw (← same)
        (record { rising = IsStrictlyIncreasing-resolvent v c d; below = resolvent_below vars v c d p.below q.below })
    go false is = cc

  steps_below : (place : ℕ) (c r : List ℕ) (steps : List Step) → IsRisingBelow vars c
      → after_steps clauses place c steps ≡ Ok r
      → IsRisingBelow vars r
  steps_below place c r [] p e = let same : c ≡ r = cc in rw (← same) p
  steps_below place c r (step ∷ steps) p e =
      let one =
      ok_parts (after_step clauses place c step) (λ next. after_steps clauses (place + 1) next steps) (λ f. f) r e in
      let other = ok_parts (numbered_clause clauses place step.clause) (λ d. resolution_of place step.variable c d)
      (λ f. f) one.0 one.1 in
      steps_below (place + 1) one.0 r steps
      (resolution_below place step.variable c other.0 one.0 p
      (numbered_below place step.clause other.0 other.1) other.2)
      one.2

  -- a chain's clause is in order and below a number where the numbered clauses are
  pub chain_below : (chain : Chain) (r : List ℕ) → clause_of clauses chain ≡ Ok r → IsRisingBelow vars r
  chain_below chain r e =
      let first =
      ok_parts (numbered_clause clauses 0 chain.first) (λ c. after_steps clauses 1 c chain.steps) (λ f. f) r e in
      steps_below 1 first.0 r chain.steps (numbered_below 0 chain.first first.0 first.1) first.2

-- a normal clause is in order and below a number
pub formula_below : (vars : ℕ) (clauses : List (List ℕ)) → IsFormula clauses vars → All (IsRisingBelow vars) clauses
formula_below vars clauses h =
    All-weaker (IsNormal vars) (IsRisingBelow vars) (λ c n. record { rising = n.rising; below = n.below }) clauses h

module _ (vars : ℕ) (given : List (List ℕ)) (ordered : All (IsRisingBelow vars) given) where
  -- the clauses that a log derives from clauses in order and below a number are so too
  pub replay_below : (derived all : List (List ℕ)) (log : List Chain) → All (IsRisingBelow vars) derived
      → replay given derived log ≡ Ok all
      → All (IsRisingBelow vars) all
  replay_below derived all [] h e = let same : derived ≡ all = cc in rw (← same) h
  replay_below derived all (chain ∷ log) h e =
      let one =
      ok_parts (clause_of (given ++ derived) chain) (λ clause. replay given (derived ++ clause ∷ []) log) _ all e in
      let next = chain_below vars (given ++ derived) (All-append (IsRisingBelow vars) given derived ordered h) chain
      one.0 one.1 in
      replay_below (derived ++ one.0 ∷ []) all log (All-push (IsRisingBelow vars) derived one.0 h next) one.2
