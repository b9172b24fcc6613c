-- A log that is replayed chain by chain.
use Rattle.std.proofs.Common.{◌≡◌, ℕ, ◌+◌, ◌^◌, ◌<◌, ◌≤◌, List, [], ◌∷◌, ◌++◌, drop, get_or, take, length}
use Rattle.std.proofs.Common.{sym, ◌∙◌, ap, subst, arith}
use Rattle.std.specs.Prelude.{Ok, Err, Some, slice_get}
use Rattle.std.proofs.lemmas.List.{drop_more, length-take, take-append-drop, take_all, take_more}
use Rattle.std.proofs.lemmas.Option.{get_or_from_slice_get, slice_get_within}
use Rattle.am_chain.proofs.Laws.{length-replay, replay-append, replay_fault}
use Rattle.am_chain.specs.declared.chain.Chain.{Chain}
use Rattle.am_chain.specs.declared.fault.ChainFault.{ChainFault}
use Rattle.am_chain.specs.declared.fault.AddError.{AddError}
use Rattle.am_chain.specs.declared.fault.AddError.TheVariants.{Fault}
use Rattle.am_chain.specs.Chains.{IsChainFaultOf, Outcome, clause_of}
use Rattle.am_chain.specs.Replay.{DerivesClauses, EndsEmpty}
use Rattle.am_query.proofs.Laws.{logs_are_tested_in_turn}
use Rattle.am_query.specs.Acceptance.{refuted}
use Rattle.am_query.specs.declared.fault.Fault.TheVariants.{BadChain, NotEmpty}
use Rattle.am_cert.specs.Certificate.{IsBounded}

module _ (clauses derived : List (List ℕ)) (log : List Chain) (k : ℕ)
    (so_far : DerivesClauses clauses (take k log) derived) where
  -- there is one derived clause for each chain that was replayed
  pub derived_count : k ≤ length log → length derived ≡ k
  derived_count within = omega (arith, length-replay clauses [] derived (take k log) so_far, length-take k log)

  -- all chains were replayed
  whole : length log ≤ k → DerivesClauses clauses log derived
  whole past = subst (λ (l : List Chain). DerivesClauses clauses l derived) (take_all k log past) so_far

  -- a log that was replayed and ends with the empty clause passes
  pub ends_empty : (j : ℕ) → length log ≤ k → EndsEmpty derived → (refuted j clauses log).Passes
  ends_empty j past empty = (derived, whole past, empty)

  pub ends_full : (j : ℕ) → length log ≤ k → ¬ EndsEmpty derived → (refuted j clauses log).Fails (NotEmpty j)
  ends_full j past full = (logs_are_tested_in_turn j clauses derived log).1 (whole past) full

  module _ (chain : Chain) (there : slice_get log k ≡ Some chain) where
    within : k < length log
    within = slice_get_within log k chain there

    here : get_or log k chain ≡ chain
    here = get_or_from_slice_get log k chain chain there

    -- a valid chain's clause is derived
    pub one_more : (clause : List ℕ) → clause_of (clauses ++ derived) chain ≡ Ok clause →
        DerivesClauses clauses (take (k + 1) log) (derived ++ clause ∷ [])
    one_more clause valid =
        let further : take (k + 1) log ≡ take k log ++ chain ∷ [] =
        take_more log k chain within ∙ ap (λ (c : Chain). take k log ++ c ∷ []) here in
        subst (λ (l : List Chain). DerivesClauses clauses l (derived ++ clause ∷ [])) (sym further)
        (replay-append clauses [] derived (take k log) chain clause so_far valid)

    -- the fault of a chain is the log's
    pub chain_fails : (j : ℕ) (f : ChainFault) → clause_of (clauses ++ derived) chain ≡ Err f →
        (refuted j clauses log).Fails (BadChain j k f.step f.why)
    chain_fails j f bad =
        let rest : drop k log ≡ chain ∷ drop (k + 1) log =
        drop_more log k chain within ∙ ap (λ (c : Chain). c ∷ drop (k + 1) log) here in
        let split : take k log ++ chain ∷ drop (k + 1) log ≡ log =
        ap (λ (l : List Chain). take k log ++ l) (sym rest) ∙ take-append-drop k log in
        let first = replay_fault clauses [] derived (take k log) (drop (k + 1) log) chain f so_far bad in
        let count : length derived ≡ k = derived_count (omega (arith, within)) in
        (logs_are_tested_in_turn j clauses derived log).0 (record { chain = k; fault = f })
        (rw (split, count) at first)

-- an error that is a fault is the outcome's
pub fault_of : (outcome : Outcome) (e : AddError) (f : ChainFault) → IsChainFaultOf outcome e → e ≡ Fault f → outcome ≡
    Err f
fault_of outcome e f h is = rw is at h

-- the steps of a chain of a log that isn't too long
pub few_steps : (log : List Chain) (k : ℕ) (chain : Chain) → IsBounded log → slice_get log k ≡ Some chain →
    length chain.steps < 2 ^ 32
few_steps log k chain bounded there =
    let within = slice_get_within log k chain there in
    let here = get_or_from_slice_get log k chain chain there in
    let few : length chain.steps < 2 ^ 30 = rw here at (bounded.steps k chain within) in
    omega (arith, few)
