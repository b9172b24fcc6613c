-- A chain without its last steps, and what the step after those resolves.
use Rattle.std.proofs.Common.{ℕ, zero, suc, ◌≡◌, ◌+◌, ◌<◌, Bool, true, false, cond, List, [], ◌∷◌, ◌++◌, get_or, take}
use Rattle.std.proofs.Common.{length, refl, sym, ap, ◌∙◌}
use Rattle.std.specs.Prelude.{Option, Ok, Err, Some, None, slice_get}
use Rattle.std.specs.Option.{ok_or}
use Rattle.std.proofs.Math.Seq.{take-suc}
use Rattle.am_chain.specs.declared.chain.Step.{Step}
use Rattle.am_chain.specs.declared.chain.Chain.{Chain}
use Rattle.am_chain.specs.declared.fault.Why.TheVariants.{NoClause, NoPivot}
use Rattle.am_chain.specs.Resolvent.{has_pivot, resolvent}
use Rattle.am_chain.specs.Chains.{Outcome, after_step, after_steps, and_then, clause_of, fault, numbered_clause}
use Rattle.am_chain.specs.Chains.{resolution_of}
use Rattle.am_chain.proofs.Laws.{after_steps-push, ok_parts}

-- a chain with its first steps alone
abbrev pub cut_chain : ℕ → Chain → Chain
cut_chain i chain = record { first = chain.first; steps = take i chain.steps }

-- a step makes one clause of another by resolution with the clause that it names
pub record IsResolved (clauses : List (List ℕ)) (step : Step) (before after : List ℕ) : Type 0 where
  pub named : List ℕ
  pub there : slice_get clauses step.clause ≡ Some named
  pub pivot : has_pivot step.variable before named ≡ true
  pub is : resolvent step.variable before named ≡ after

some_of_ok : {T E : Type 0} (o : Option T) (e : E) (x : T) → ok_or o e ≡ Ok x → o ≡ Some x
some_of_ok None e x h = cc
some_of_ok (Some y) e x h = let same : y ≡ x = cc in ap Some same

resolution_parts : (place v : ℕ) (b d c : List ℕ) → resolution_of place v b d ≡ Ok c
    → (has_pivot v b d ≡ true) × (resolvent v b d ≡ c)
resolution_parts place v b d c e = go (has_pivot v b d) refl e where
  go : (t : Bool) → has_pivot v b d ≡ t → cond {A = Outcome} t (Ok (resolvent v b d)) (Err (fault place NoPivot)) ≡ Ok c
      → (has_pivot v b d ≡ true) × (resolvent v b d ≡ c)
  go true is h = let same : resolvent v b d ≡ c = cc in (is, same)
  go false is h = cc

module _ (clauses : List (List ℕ)) where
  number_parts : (place number : ℕ) (c : List ℕ) → numbered_clause clauses place number ≡ Ok c
      → slice_get clauses number ≡ Some c
  number_parts place number c e = some_of_ok (slice_get clauses number) (fault place NoClause) c e

  step_parts : (place : ℕ) (b c : List ℕ) (step : Step) → after_step clauses place b step ≡ Ok c
      → IsResolved clauses step b c
  step_parts place b c step e =
      let other =
      ok_parts (numbered_clause clauses place step.clause) (λ d. resolution_of place step.variable b d) (λ f. f) c e in
      let parts = resolution_parts place step.variable b other.0 c other.2 in
      record { named = other.0; there = number_parts place step.clause other.0 other.1; pivot = parts.0; is = parts.1 }

  from_first : (chain : Chain) (f b : List ℕ) → numbered_clause clauses 0 chain.first ≡ Ok f
      → after_steps clauses 1 f chain.steps ≡ Ok b
      → clause_of clauses chain ≡ Ok b
  from_first chain f b e h = rw e h

  -- the clause of a chain's first steps and one more is that of the first steps, resolved by that one
  pub last_step : (chain : Chain) (j : ℕ) (d : Step) (c : List ℕ) → j < length chain.steps
      → clause_of clauses (cut_chain (suc j) chain) ≡ Ok c
      → (b : List ℕ) × (clause_of clauses (cut_chain j chain) ≡ Ok b) × IsResolved clauses (get_or chain.steps j d) b c
  last_step chain j d c lt e =
      let steps = chain.steps in
      let step = get_or steps j d in
      let first = ok_parts (numbered_clause clauses 0 chain.first) (λ f. after_steps clauses 1 f (take (suc j) steps))
      (λ f. f) c e in
      let split : after_steps clauses 1 first.0 (take j steps ++ step ∷ []) ≡ Ok c =
      sym (ap (λ s. after_steps clauses 1 first.0 s) (take-suc steps j d lt)) ∙ first.2 in
      let pushed : and_then (after_steps clauses 1 first.0 (take j steps))
      (λ x. after_step clauses (1 + length (take j steps)) x step)
      ≡ Ok c =
      sym (after_steps-push clauses 1 first.0 (take j steps) step) ∙ split in
      let parts = ok_parts (after_steps clauses 1 first.0 (take j steps))
      (λ x. after_step clauses (1 + length (take j steps)) x step) (λ f. f) c pushed in (
        parts.0,
        from_first (cut_chain j chain) first.0 parts.0 first.1 parts.1,
        step_parts (1 + length (take j steps)) parts.0 c step parts.2,
      )

  -- the clause of a chain without steps is its first one
  pub first_there : (chain : Chain) (c : List ℕ) → clause_of clauses (cut_chain 0 chain) ≡ Ok c
      → slice_get clauses chain.first ≡ Some c
  first_there chain c e =
      let first = ok_parts (numbered_clause clauses 0 chain.first) (λ f. after_steps clauses 1 f []) (λ f. f) c e in
      let same : first.0 ≡ c = cc in
      number_parts 0 chain.first c (first.1 ∙ ap (λ f. Ok f) same)

-- what stands in a list stands there when the list grows
pub slice_get-append : {X : Type 0} (xs ys : List X) (n : ℕ) (x : X) → slice_get xs n ≡ Some x
    → slice_get (xs ++ ys) n ≡ Some x
slice_get-append [] ys n x e = cc
slice_get-append (y ∷ xs) ys zero x e = e
slice_get-append (y ∷ xs) ys (suc n) x e = slice_get-append xs ys n x e
