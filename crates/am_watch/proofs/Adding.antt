-- Clauses that come to the watches.
use Rattle.std.proofs.Common.{ℕ, ◌≡◌, ◌≢◌, ◌*◌, ◌<◌, ◌≤◌, List, [], ◌∷◌, ◌++◌, All, length, get_or, take, refl, sym}
use Rattle.std.proofs.Common.{◌∙◌, inl}
use Rattle.std.proofs.Common.{inr, arith, length-append, length-take}
use Rattle.std.specs.Prelude.{OnErr, OnOk, Result, Ok, Err}
use Rattle.std.proofs.lemmas.List.{get_or_append_left, get_or_past}
use Rattle.std.proofs.Math.Seq.{get_or-append_seam}
use native.Mathlib.Decide.{dec_lt}
use Prim.{yes, no}
use Rattle.std.proofs.lemmas.List.Elements.{All-contains, All-get_or, Contains-append_left, Contains-push}
use Rattle.std.proofs.lemmas.List.Elements.{Contains-push_cases}
use Rattle.am_lit.specs.Literal.{variable_of}
use Rattle.am_lit.specs.Clause.{IsFormula, IsNormal}
use Rattle.am_lit.proofs.Laws.{Contains-nil, same_or}
use Rattle.am_trail.specs.Trails.{Assigned}
use Rattle.am_watch.specs.declared.watcher.Watcher.{Watcher}
use Rattle.am_watch.specs.declared.watcher.Pair.{Pair}
use Rattle.am_watch.specs.Pairs.{no_pair}
use Rattle.am_watch.specs.Lists.{list_at}
use Rattle.am_watch.specs.Watching.{KeepsWatches, Watched, WatchesHold, empty_trail}

not_lt : (i n : ℕ) → ¬ (i < n) → n ≤ i
not_lt i n h = elim (dec_lt i n) [ yes lt ↦ absurd (h lt) | no ge ↦ omega arith ]

-- one more clause, which is fresh
pub with_clause : (lists : List (List Watcher)) (pairs : List Pair) (fresh : List ℕ) (clauses : List (List ℕ))
    (t : Assigned) (c : List ℕ) (n : ℕ)
    → n ≡ length pairs → KeepsWatches lists pairs fresh clauses t → All (λ l. variable_of l < t.vars) c
    → KeepsWatches lists (pairs ++ no_pair ∷ []) (fresh ++ n ∷ []) (clauses ++ c ∷ []) t
with_clause lists pairs fresh clauses t c n is h below = record {
  numbers = omega (arith, h.numbers, length-append pairs (no_pair ∷ []), length-append clauses (c ∷ []));
  codes = h.codes;
  variables = λ i l there. elim (dec_lt i (length clauses)) [
    | yes lt ↦ h.variables i l (rw (get_or_append_left clauses (c ∷ []) [] i lt) at there)
    | no ge ↦ elim (same_or i (length clauses)) [
      | inl e ↦ All-contains (λ l. variable_of l < t.vars) c l below
          (rw (e, get_or-append_seam clauses c [] []) at there)
      | inr ne ↦ absurd (Contains-nil l (rw (past i ge ne) at there))
    ]
  ];
  queued = h.queued;
  watchers = λ l x there. let w = h.watchers l x there in record {
    number = omega (arith, w.number, length-append clauses (c ∷ []));
    blocker = rw (get_or_append_left clauses (c ∷ []) [] x.clause w.number) w.blocker;
    pair = rw (
      get_or_append_left clauses (c ∷ []) [] x.clause w.number,
      get_or_append_left pairs (no_pair ∷ []) no_pair x.clause (in_pairs x.clause w.number),
    ) w.pair;
  };
  in_range = λ i there. elim (Contains-push_cases fresh n i there) [
    | inl old ↦ omega (arith, h.in_range i old, length-append clauses (c ∷ []))
    | inr e ↦ omega (arith, h.numbers, length-append clauses (c ∷ []))
  ];
  kept = λ i lt. elim (dec_lt i (length clauses)) [
    | yes lo ↦ elim (h.kept i lo) [
      | inl f ↦ inl (Contains-append_left fresh (n ∷ []) i f)
      | inr k ↦ inr (rw (
        get_or_append_left clauses (c ∷ []) [] i lo,
        get_or_append_left pairs (no_pair ∷ []) no_pair i
            (in_pairs i lo),
      ) k)
    ]
    | no ge ↦ inl (let e : n ≡ i = omega (arith, h.numbers, length-append clauses (c ∷ [])) in
        rw (← e) (Contains-push fresh n))
  ];
} where
  in_pairs : (i : ℕ) → i < length clauses → i < length pairs
  in_pairs i lt = omega (arith, h.numbers)

  past : (i : ℕ) → ¬ (i < length clauses) → i ≢ length clauses → get_or (clauses ++ c ∷ []) i [] ≡ []
  past i ge ne = get_or_past (clauses ++ c ∷ []) i []
      (omega (arith, not_lt i (length clauses) ge, length-append clauses (c ∷ [])))

-- no clauses, and an empty trail
pub empty_holds : (lists : List (List Watcher)) (vars : ℕ) → length lists ≡ 2 * vars → ((l : ℕ) → list_at lists l ≡ [])
    → KeepsWatches lists [] [] [] (empty_trail vars)
empty_holds lists vars codes empty = record {
  numbers = refl;
  codes = codes;
  variables = λ i l there. absurd (Contains-nil l there);
  queued = λ e there. absurd (Contains-nil e there);
  watchers = λ l x there. absurd (Contains-nil x (rw (empty l) at there));
  in_range = λ i there. absurd (Contains-nil i there);
  kept = λ i lt. absurd (omega arith);
}

-- the variables of a formula's clause are some of the formula's
pub below_of : (clauses : List (List ℕ)) (vars i : ℕ) → IsFormula clauses vars → i < length clauses
    → All (λ l. variable_of l < vars) (get_or clauses i [])
below_of clauses vars i normal lt = (All-get_or (IsNormal vars) clauses i [] lt normal).below

-- the next clause has the number of pairs so far
pub number_next : (pairs : List Pair) (clauses : List (List ℕ)) (i : ℕ) → length pairs ≡ length (take i clauses)
    → i < length clauses → i ≡ length pairs
number_next pairs clauses i h lt = omega (arith, length-take i clauses)

same_parts : (a a' : List (List Watcher)) (b b' : List Pair) (c c' : List ℕ) → a ≡ a' → b ≡ b' → c ≡ c'
    → ◌≡◌ {A = Watched} (record { lists = a; pairs = b; fresh = c }) (record { lists = a'; pairs = b'; fresh = c' })
same_parts a a' b b' c c' p q r = rw (p, q, r) refl

-- what a call that adds a clause did
module _ {A E : Type 0} (r : Result A E) (old new : Watched) (n : ℕ) (lists : new.lists ≡ old.lists) where
  -- a call that adds a clause keeps the invariant with the clause among the fresh ones
  pub added : OnOk r (new.pairs ≡ old.pairs ++ no_pair ∷ []) → OnOk r (new.fresh ≡ old.fresh ++ n ∷ [])
      → (c : List ℕ)
      → OnOk r ((clauses : List (List ℕ)) (t : Assigned) → WatchesHold old clauses t → n ≡ length clauses
      → All (λ l. variable_of l < t.vars) c → WatchesHold new (clauses ++ c ∷ []) t)
  added pairs fresh c = go r pairs fresh where
    go : (r : Result A E) → OnOk r (new.pairs ≡ old.pairs ++ no_pair ∷ []) → OnOk r (new.fresh ≡ old.fresh ++ n ∷ [])
        → OnOk r ((clauses : List (List ℕ)) (t : Assigned) → WatchesHold old clauses t → n ≡ length clauses
        → All (λ l. variable_of l < t.vars) c → WatchesHold new (clauses ++ c ∷ []) t)
    go (Ok x) p f = λ clauses t h is below. rw (lists, p, f)
        (with_clause old.lists old.pairs old.fresh clauses t c n (is ∙ sym h.numbers) h below)
    go (Err e) p f = tt

  -- a call that finds no memory leaves the watches as they were
  pub refused : OnErr r (new.pairs ≡ old.pairs) → OnErr r (new.fresh ≡ old.fresh) → OnErr r (new ≡ old)
  refused pairs fresh = go r pairs fresh where
    go : (r : Result A E) → OnErr r (new.pairs ≡ old.pairs) → OnErr r (new.fresh ≡ old.fresh) → OnErr r (new ≡ old)
    go (Ok x) p f = tt
    go (Err e) p f = same_parts new.lists old.lists new.pairs old.pairs new.fresh old.fresh lists p f
