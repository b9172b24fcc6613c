-- What is left of a log that refutes clauses, without the chains that its last one doesn't need, refutes them too.
use Rattle.std.proofs.Common.{ℕ, zero, suc, ◌≡◌, ◌≢◌, ◌+◌, ◌-◌, ◌<◌, ◌≤◌, Bool, true, false, cond, ltb, List, [], ◌∷◌}
use Rattle.std.proofs.Common.{◌++◌, All, length, map, refl, sym, ap, ◌∙◌, inl, inr, arith, length-append}
use Rattle.std.specs.Prelude.{Contains, Some, None, Ok, Err, slice_get}
use Rattle.std.proofs.lemmas.Bool.{ltb-true, ltb-false}
use Rattle.std.proofs.lemmas.Option.{slice_get_within}
use Rattle.std.proofs.lemmas.List.Elements.{All-nil, All-cons, All-weaker}
use Rattle.am_lit.proofs.Laws.{Contains-head, Contains-tail, Contains-nil, Contains-cons_cases, same_or}
use Rattle.am_chain.specs.declared.chain.Step.{Step}
use Rattle.am_chain.specs.declared.chain.Chain.{Chain}
use Rattle.am_chain.specs.declared.fault.Why.TheVariants.{NoClause}
use Rattle.am_chain.specs.Chains.{Outcome, after_step, after_steps, and_then, clause_of, fault, numbered_clause}
use Rattle.am_chain.specs.Chains.{resolution_of}
use Rattle.am_chain.specs.Replay.{Refutes, replay}
use Rattle.am_chain.specs.Trimmed.{AreNeeded, Names, kept_below, kept_chains, moved_chain, moved_number, moved_step}
use Rattle.am_chain.proofs.Sound.{ok_parts, some_of_ok}
use Rattle.am_chain.proofs.Replaying.{length-replay}

-- a chain says the same over other clauses where each clause that it names stands at its moved number
module _ (clauses others : List (List ℕ)) (move : ℕ → ℕ) where
  same_steps : (place : ℕ) (c : List ℕ) (steps : List Step)
      → ((step : Step) → Contains steps step → slice_get others (move step.clause) ≡ slice_get clauses step.clause)
      → after_steps others place c (map (moved_step move) steps) ≡ after_steps clauses place c steps
  same_steps place c [] h = refl
  same_steps place c (step ∷ steps) h =
      rw (h step (Contains-head step steps))
      (go (after_step clauses place c step)
      (λ next. same_steps (place + 1) next steps (λ s k. h s (Contains-tail step steps s k)))) where
        go : (o : Outcome)
            → ((next : List ℕ)
            → after_steps others (place + 1) next (map (moved_step move) steps)
            ≡ after_steps clauses (place + 1) next steps)
            → and_then o (λ next. after_steps others (place + 1) next (map (moved_step move) steps))
            ≡ and_then o (λ next. after_steps clauses (place + 1) next steps)
        go (Ok next) more = more next
        go (Err f) more = refl

  pub same_clause : (chain : Chain) → ((n : ℕ) → Names chain n → slice_get others (move n) ≡ slice_get clauses n)
      → clause_of others (moved_chain move chain) ≡ clause_of clauses chain
  same_clause chain h = rw (h chain.first (inl refl)) (go (numbered_clause clauses 0 chain.first)) where
    go : (o : Outcome)
        → and_then o (λ c. after_steps others 1 c (map (moved_step move) chain.steps))
        ≡ and_then o (λ c. after_steps clauses 1 c chain.steps)
    go (Ok c) = same_steps 1 c chain.steps (λ step k. h step.clause (inr (step, k, refl)))
    go (Err f) = refl

-- the kept chains before a place are no more than it, nor than those before a later place
module _ (keeps : ℕ → Bool) where
  one_more : (k : ℕ) → kept_below keeps k ≤ kept_below keeps (suc k)
  one_more k = omega arith

  pub kept_mono : (k n : ℕ) → kept_below keeps k ≤ kept_below keeps (k + n)
  kept_mono k zero = let e : k + 0 ≡ k = omega arith in rw e (omega arith)
  kept_mono k (suc n) =
      let e : k + suc n ≡ suc (k + n) = omega arith in rw e (omega (arith, kept_mono k n, one_more (k + n)))

  -- no more chains are kept before a place than stand before it
  pub kept_le : (k : ℕ) → kept_below keeps k ≤ k
  kept_le zero = omega arith
  kept_le (suc k) = go (keeps k) (kept_le k) where
    go : (b : Bool) → kept_below keeps k ≤ k → kept_below keeps k + cond b 1 0 ≤ suc k
    go true h = omega arith
    go false h = omega arith

  pub kept_here : (k : ℕ) → keeps k ≡ true → kept_below keeps (suc k) ≡ suc (kept_below keeps k)
  kept_here k e = rw e (omega arith)

  pub kept_not : (k : ℕ) → keeps k ≡ false → kept_below keeps (suc k) ≡ kept_below keeps k
  kept_not k e = rw e (omega arith)

slice_get-left : {X : Type 0} (xs ys : List X) (n : ℕ) → n < length xs → slice_get (xs ++ ys) n ≡ slice_get xs n
slice_get-left [] ys n lt = absurd (omega arith)
slice_get-left (x ∷ xs) ys zero lt = refl
slice_get-left (x ∷ xs) ys (suc n) lt = slice_get-left xs ys n (omega arith)

slice_get-right : {X : Type 0} (xs ys : List X) (n m : ℕ) → m ≡ length xs + n → slice_get (xs ++ ys) m ≡ slice_get ys n
slice_get-right [] ys n m e = let same : m ≡ n = omega arith in rw same refl
slice_get-right (x ∷ xs) ys n zero e = absurd (omega arith)
slice_get-right (x ∷ xs) ys n (suc m) e = slice_get-right xs ys n m (omega arith)

slice_get-none : {X : Type 0} (xs : List X) (n : ℕ) → length xs ≤ n → slice_get xs n ≡ None
slice_get-none [] n h = refl
slice_get-none (x ∷ xs) zero h = absurd (omega arith)
slice_get-none (x ∷ xs) (suc n) h = slice_get-none xs n (omega arith)

slice_get-end : {X : Type 0} (xs : List X) (x : X) (n : ℕ) → n ≡ length xs → slice_get (xs ++ x ∷ []) n ≡ Some x
slice_get-end xs x n e = slice_get-right xs (x ∷ []) 0 n (omega arith)

-- the clauses of the kept chains stand at their places among the kept ones
pub record AreKept (keeps : ℕ → Bool) (derived kept : List (List ℕ)) : Type 0 where
  pub long : length kept ≡ kept_below keeps (length derived)
  pub at : (k : ℕ) → k < length derived → keeps k ≡ true → slice_get kept (kept_below keeps k) ≡ slice_get derived k

module _ (given : List (List ℕ)) (keeps : ℕ → Bool) where
  module _ (derived kept : List (List ℕ)) (are : AreKept keeps derived kept) where
    -- a clause that is given or kept, or isn't there, is the same at its moved number
    same_number : (n : ℕ) → (length given ≤ n → keeps (n - length given) ≡ true)
        → slice_get (given ++ kept) (moved_number (length given) keeps n) ≡ slice_get (given ++ derived) n
    same_number n h = go (ltb n (length given)) (ltb-true n (length given)) (ltb-false n (length given)) where
      go : (b : Bool) → (b ≡ true → n < length given) → (b ≡ false → length given ≤ n)
          → slice_get (given ++ kept) (cond b n (length given + kept_below keeps (n - length given)))
          ≡ slice_get (given ++ derived) n
      go true lt ge = slice_get-left given kept n (lt refl) ∙ sym (slice_get-left given derived n (lt refl))
      go false lt ge =
          let past : length given ≤ n = ge refl in
          let k = n - length given in
          let e : n ≡ length given + k = omega arith in
          slice_get-right given kept (kept_below keeps k) _ refl
          ∙ derived_same k (ltb k (length derived)) (ltb-true k (length derived)) (ltb-false k (length derived))
          (h past)
          ∙ sym (slice_get-right given derived k n e) where
            derived_same : (k : ℕ) (b : Bool) → (b ≡ true → k < length derived) → (b ≡ false → length derived ≤ k)
                → keeps k ≡ true
                → slice_get kept (kept_below keeps k) ≡ slice_get derived k
            derived_same k true lt ge t = are.at k (lt refl) t
            derived_same k false lt ge t =
                let past : length derived ≤ k = ge refl in
                let more : length derived + (k - length derived) ≡ k = omega arith in
                let mono : kept_below keeps (length derived) ≤ kept_below keeps k =
                rw more at (kept_mono keeps (length derived) (k - length derived)) in
                slice_get-none kept (kept_below keeps k) (omega (arith, are.long, mono))
                ∙ sym (slice_get-none derived k past)

    push_kept : (c : List ℕ) → keeps (length derived) ≡ true → AreKept keeps (derived ++ c ∷ []) (kept ++ c ∷ [])
    push_kept c t =
        let len = length-append derived (c ∷ []) in
        let suc_len : length (derived ++ c ∷ []) ≡ suc (length derived) = omega (arith, len) in
        record {
          long =
              rw (suc_len) (omega (arith, length-append kept (c ∷ []), are.long, kept_here keeps (length derived) t));
          at = λ k lt u. elim (same_or k (length derived)) [
            | inl e ↦
                let here : kept_below keeps k ≡ length kept = ap (kept_below keeps) e ∙ sym are.long in
                slice_get-end kept c (kept_below keeps k) here ∙ sym (slice_get-end derived c k e)
            | inr ne ↦
                let before : k < length derived = omega (arith, len) in
                let more : suc k + (length derived - suc k) ≡ length derived = omega arith in
                let mono : kept_below keeps (suc k) ≤ kept_below keeps (length derived) =
                rw more at (kept_mono keeps (suc k) (length derived - suc k)) in
                let low : kept_below keeps k < length kept = omega (arith, are.long, mono, kept_here keeps k u) in
                slice_get-left kept (c ∷ []) (kept_below keeps k) low ∙ are.at k before u
                ∙ sym (slice_get-left derived (c ∷ []) k before)
          ];
        }

    push_other : (c : List ℕ) → keeps (length derived) ≡ false → AreKept keeps (derived ++ c ∷ []) kept
    push_other c f =
        let len = length-append derived (c ∷ []) in
        let suc_len : length (derived ++ c ∷ []) ≡ suc (length derived) = omega (arith, len) in
        record {
          long = rw suc_len (are.long ∙ sym (kept_not keeps (length derived) f));
          at = λ k lt u.
              let ne : k ≢ length derived = (λ e. let wrong : true ≡ false = sym u ∙ ap keeps e ∙ f in cc) in
              let before : k < length derived = omega (arith, len) in
              are.at k before u ∙ sym (slice_get-left derived (c ∷ []) k before);
        }

  replay_step : (kept rest : List (List ℕ)) (chain : Chain) (clause : List ℕ) (log : List Chain)
      → clause_of (given ++ kept) chain ≡ Ok clause → replay given (kept ++ clause ∷ []) log ≡ Ok rest
      → replay given kept (chain ∷ log) ≡ Ok rest
  replay_step kept rest chain clause log e h = rw e h

  -- each number that a kept chain names is a given clause's or a kept chain's
  abbrev pub NamesKept : ℕ → List Chain → Type 0
  NamesKept place [] = Unit {0}
  NamesKept place (chain ∷ log) =
      (keeps place ≡ true → (n : ℕ) → Names chain n → length given ≤ n → keeps (n - length given) ≡ true)
      × NamesKept (suc place) log

  pub replay_kept : (derived kept all : List (List ℕ)) (log : List Chain) → AreKept keeps derived kept
      → NamesKept (length derived) log → replay given derived log ≡ Ok all
      → (rest : List (List ℕ))
      × (replay given kept (kept_chains (moved_number (length given) keeps) keeps (length derived) log) ≡ Ok rest)
      × AreKept keeps all rest
  replay_kept derived kept all [] are names e = let same : derived ≡ all = cc in (kept, refl, rw same at are)
  replay_kept derived kept all (chain ∷ log) are names e =
      let one = ok_parts (clause_of (given ++ derived) chain) (λ clause. replay given (derived ++ clause ∷ []) log)
      (λ f. record { chain = length derived; fault = f }) all e in
      go (keeps (length derived)) refl one.0 one.1 one.2 (λ d k. replay_kept d k all log) where
        len : (c : List ℕ) → suc (length derived) ≡ length (derived ++ c ∷ [])
        len c = omega (arith, length-append derived (c ∷ []))

        go : (b : Bool) → keeps (length derived) ≡ b → (clause : List ℕ)
            → clause_of (given ++ derived) chain ≡ Ok clause → replay given (derived ++ clause ∷ []) log ≡ Ok all
            → ((d k : List (List ℕ)) → AreKept keeps d k → NamesKept (length d) log → replay given d log ≡ Ok all
            → (rest : List (List ℕ))
            × (replay given k (kept_chains (moved_number (length given) keeps) keeps (length d) log) ≡ Ok rest)
            × AreKept keeps all rest)
            → (rest : List (List ℕ))
            × (replay given kept
            (cond b
            (moved_chain (moved_number (length given) keeps) chain
            ∷ kept_chains (moved_number (length given) keeps) keeps (suc (length derived)) log)
            (kept_chains (moved_number (length given) keeps) keeps (suc (length derived)) log))
            ≡ Ok rest)
            × AreKept keeps all rest
        go true t clause is next rec =
            let same = same_clause (given ++ derived) (given ++ kept) (moved_number (length given) keeps) chain
            (λ n k. same_number derived kept are n (names.0 t n k)) in
            let more = rec (derived ++ clause ∷ []) (kept ++ clause ∷ []) (push_kept derived kept are clause t)
            (rw (len clause) at names.1) next in (
              more.0,
              replay_step kept more.0 (moved_chain (moved_number (length given) keeps) chain) clause _ (same ∙ is)
                  (ap (λ n. replay given (kept ++ clause ∷ [])
                  (kept_chains (moved_number (length given) keeps) keeps n log)) (len clause)
                  ∙ more.1),
              more.2,
            )
        go false f clause is next rec =
            let more = rec (derived ++ clause ∷ []) kept (push_other derived kept are clause f)
            (rw (len clause) at names.1) next in (
              more.0,
              ap (λ n. replay given kept (kept_chains (moved_number (length given) keeps) keeps n log)) (len clause)
                  ∙ more.1,
              more.2,
            )

-- what a valid chain names is there
module _ (clauses : List (List ℕ)) where
  number_in : (place number : ℕ) (c : List ℕ) → numbered_clause clauses place number ≡ Ok c → number < length clauses
  number_in place number c e =
      slice_get_within clauses number c (some_of_ok (slice_get clauses number) (fault place NoClause) c e)

  steps_in : (place : ℕ) (c r : List ℕ) (steps : List Step) → after_steps clauses place c steps ≡ Ok r → (step : Step)
      → Contains steps step
      → step.clause < length clauses
  steps_in place c r [] e s h = absurd (Contains-nil s h)
  steps_in place c r (step ∷ steps) e s h =
      let one =
      ok_parts (after_step clauses place c step) (λ next. after_steps clauses (place + 1) next steps) (λ f. f) r e in
      elim (Contains-cons_cases step steps s h) [
        | inl same ↦
            let other = ok_parts (numbered_clause clauses place step.clause)
            (λ d. resolution_of place step.variable c d) (λ f. f) one.0 one.1 in
            rw (← same) (number_in place step.clause other.0 other.1)
        | inr later ↦ steps_in (place + 1) one.0 r steps one.2 s later
      ]

  names_in : (chain : Chain) (r : List ℕ) → clause_of clauses chain ≡ Ok r → (n : ℕ) → Names chain n
      → n < length clauses
  names_in chain r e n h =
      let first =
      ok_parts (numbered_clause clauses 0 chain.first) (λ c. after_steps clauses 1 c chain.steps) (λ f. f) r e in
      elim h [
        | inl same ↦ rw (← same) (number_in 0 chain.first first.0 first.1)
        | inr s ↦ rw (← s.2) (steps_in 1 first.0 r chain.steps first.2 s.0 s.1)
      ]

-- a chain of a valid log names only given clauses and chains before it
pub names_below : (given derived all : List (List ℕ)) (log : List Chain) → replay given derived log ≡ Ok all
    → (i : ℕ) (chain : Chain) → slice_get log i ≡ Some chain → (n : ℕ) → Names chain n
    → n < length given + (length derived + i)
names_below given derived all [] e i chain at n h = cc
names_below given derived all (first ∷ log) e i chain at n h =
    let one = ok_parts (clause_of (given ++ derived) first) (λ c. replay given (derived ++ c ∷ []) log)
    (λ f. record { chain = length derived; fault = f }) all e in
    go i at one.0 one.1 one.2 (λ c next k is. names_below given (derived ++ c ∷ []) all log next k chain is n h) where
      go : (i : ℕ) → slice_get (first ∷ log) i ≡ Some chain → (c : List ℕ) → clause_of (given ++ derived) first ≡ Ok c
          → replay given (derived ++ c ∷ []) log ≡ Ok all
          → ((c : List ℕ) → replay given (derived ++ c ∷ []) log ≡ Ok all → (k : ℕ) → slice_get log k ≡ Some chain
          → n < length given + (length (derived ++ c ∷ []) + k))
          → n < length given + (length derived + i)
      go zero at c is next rec =
          let same : first ≡ chain = cc in
          omega (arith, names_in (given ++ derived) chain c (rw same at is) n h, length-append given derived)
      go (suc i) at c is next rec = omega (arith, rec c next i at, length-append derived (c ∷ []))

module _ (given : List (List ℕ)) (keeps : ℕ → Bool) where
  names_kept : (place : ℕ) (log : List Chain)
      → ((i : ℕ) (chain : Chain) → slice_get log i ≡ Some chain → keeps (place + i) ≡ true → (n : ℕ) → Names chain n
      → length given ≤ n → keeps (n - length given) ≡ true)
      → NamesKept given keeps place log
  names_kept place [] h = tt
  names_kept place (chain ∷ log) h = (
    (λ t. h 0 chain refl (let e : place + 0 ≡ place = omega arith in rw e t)),
    names_kept (suc place) log
        (λ i c at t. h (suc i) c at (let e : place + suc i ≡ suc place + i = omega arith in rw e t)),
  )

-- no more chains are kept than there are
pub length-kept_chains : (move : ℕ → ℕ) (keeps : ℕ → Bool) (place : ℕ) (log : List Chain)
    → length (kept_chains move keeps place log) ≤ length log
length-kept_chains move keeps place [] = omega arith
length-kept_chains move keeps place (chain ∷ log) =
    go (keeps place) (length-kept_chains move keeps (suc place) log) where
      go : (b : Bool) → length (kept_chains move keeps (suc place) log) ≤ length log
          → length
          (cond b (moved_chain move chain ∷ kept_chains move keeps (suc place) log)
          (kept_chains move keeps (suc place) log))
          ≤ suc (length log)
      go true h = omega arith
      go false h = omega arith

ends_at : {X : Type 0} (xs : List X) (n : ℕ) (x : X) → length xs ≡ suc n → slice_get xs n ≡ Some x
    → (before : List X) × (xs ≡ before ++ x ∷ [])
ends_at [] n x l e = absurd (omega arith)
ends_at (y ∷ []) zero x l e = let same : y ≡ x = cc in ([], ap (λ z. z ∷ []) same)
ends_at (y ∷ []) (suc n) x l e = absurd (omega arith)
ends_at (y ∷ z ∷ zs) zero x l e = absurd (omega arith)
ends_at (y ∷ z ∷ zs) (suc n) x l e =
    let rest = ends_at (z ∷ zs) n x (omega arith) e in (y ∷ rest.0, ap (λ r. y ∷ r) rest.1)

slice_get-length : {X : Type 0} (xs : List X) (n : ℕ) (x : X) → slice_get xs n ≡ Some x → n < length xs
slice_get-length xs n x e = slice_get_within xs n x e

-- where a log refutes clauses, so do the chains that its last one needs
pub trimmed_refutes : (given : List (List ℕ)) (log : List Chain) (keeps : ℕ → Bool) → AreNeeded (length given) log keeps
    → Refutes given log
    → Refutes given (kept_chains (moved_number (length given) keeps) keeps 0 log)
trimmed_refutes given log keeps needed (derived, valid, (before, ends)) =
    let long : length derived ≡ length log = omega (arith, length-replay given [] derived log valid) in
    let end : List (List ℕ) = [] ∷ [] in
    let last : length derived ≡ length before + 1 = omega (arith, ap length ends, length-append before end) in
    let p = length before in
    let kept_last : keeps p ≡ true = (needed p (omega (arith, long, last))).1 (inl (omega (arith, long, last))) in
    let none : AreKept keeps [] [] = record { long = refl; at = λ k lt t. absurd (omega arith) } in
    let closed = names_kept given keeps 0 log (λ i chain at t n h ge.
    let e : length given + (n - length given) ≡ n = omega arith in
    let below = names_below given [] derived log valid i chain at n h in
    let within = slice_get-length log i chain at in
    (needed (n - length given) (omega (arith, below, within))).1
    (inr (i, chain, at, (let z : 0 + i ≡ i = omega arith in rw z at t), rw e h))) in
    let kept = replay_kept given keeps [] [] derived log none closed valid in
    let at_last =
    kept.2.at p (omega (arith, last)) kept_last ∙ ap (λ d. slice_get d p) ends ∙ slice_get-end before [] p refl in
    let e : length derived ≡ suc p = omega (arith, last) in
    let longer : length kept.0 ≡ suc (kept_below keeps p) =
    kept.2.long ∙ ap (kept_below keeps) e ∙ kept_here keeps p kept_last in
    (kept.0, kept.1, ends_at kept.0 (kept_below keeps p) [] longer at_last)

-- a chain of a log whose steps resolve on the variables of a chain's
abbrev IsOneOf : List Chain → Chain → Type 0
IsOneOf log trimmed =
    (chain : Chain) × Contains log chain
    × (map (λ (step : Step). step.variable) trimmed.steps ≡ map (λ (step : Step). step.variable) chain.steps)

same_variables : (move : ℕ → ℕ) (steps : List Step)
    → map (λ (step : Step). step.variable) (map (moved_step move) steps) ≡ map (λ (step : Step). step.variable) steps
same_variables move [] = refl
same_variables move (step ∷ steps) = ap (λ r. step.variable ∷ r) (same_variables move steps)

-- each kept chain is one of the log's, with its numbers moved
pub kept_are : (move : ℕ → ℕ) (keeps : ℕ → Bool) (place : ℕ) (log : List Chain)
    → All (IsOneOf log) (kept_chains move keeps place log)
kept_are move keeps place [] = All-nil (IsOneOf [])
kept_are move keeps place (chain ∷ log) =
    go (keeps place)
    (All-weaker (IsOneOf log) (IsOneOf (chain ∷ log)) (λ t h. (h.0, Contains-tail chain log h.0 h.1, h.2))
    (kept_chains move keeps (suc place) log) (kept_are move keeps (suc place) log)) where
      go : (b : Bool) → All (IsOneOf (chain ∷ log)) (kept_chains move keeps (suc place) log)
          → All (IsOneOf (chain ∷ log))
          (cond b (moved_chain move chain ∷ kept_chains move keeps (suc place) log)
          (kept_chains move keeps (suc place) log))
      go true h =
          All-cons (IsOneOf (chain ∷ log)) (moved_chain move chain) (kept_chains move keeps (suc place) log)
          (chain, Contains-head chain log, same_variables move chain.steps) h
      go false h = h
