-- One literal of the current level is left.
use Rattle.std.proofs.Common.{ℕ, ◌≡◌, ◌+◌, ◌<◌, ◌≤◌, Bool, true, false, List, [], ◌∷◌, length, get_or, set, ◌-◌, refl}
use Rattle.std.proofs.Common.{sym, ap, ◌∙◌, inl, inr, arith}
use Rattle.std.specs.Prelude.{Contains, ◌⊎◌, Ok}
use Rattle.std.specs.List.{AllPairs}
use Rattle.std.specs.List.Sorted.{IsStrictlyIncreasing}
use Rattle.std.proofs.lemmas.List.Kept.{AllPairs-from_increasing}
use Rattle.std.proofs.lemmas.List.Elements.{All-contains}
use Rattle.std.proofs.lemmas.List.{get_or-set_other}
use Rattle.std.proofs.lemmas.Option.{slice_get-get_or}
use Rattle.am_lit.specs.Literal.{opposite_of}
use Rattle.am_lit.proofs.Laws.{Contains-head, Contains-tail, Contains-nil, Contains-cons_cases, AllPairs-head}
use Rattle.am_lit.proofs.Laws.{AllPairs-tail, same_or}
use Rattle.am_chain.specs.declared.chain.Step.{Step}
use Rattle.am_chain.specs.Chains.{clause_of}
use native.Mathlib.Decide.{dec_lt}
use Prim.{yes, no}
use Rattle.am_chain.specs.inside.Marks.{mark_at}
use Rattle.am_solve.specs.inside.Marking.{IsCounted, IsDerivedDownTo, IsReachedClause, IsUnique}
use Rattle.am_solve.proofs.Counting.{counted_less, marked_in, some_counted}

-- rising lists with the same elements are one list
same_pairs : (xs ys : List ℕ) → AllPairs (λ x y. x < y) xs → AllPairs (λ x y. x < y) ys
    → ((m : ℕ) → Contains xs m → Contains ys m) → ((m : ℕ) → Contains ys m → Contains xs m)
    → xs ≡ ys
same_pairs [] [] p q f g = refl
same_pairs [] (y ∷ ys) p q f g = absurd (Contains-nil y (g y (Contains-head y ys)))
same_pairs (x ∷ xs) [] p q f g = absurd (Contains-nil x (f x (Contains-head x xs)))
same_pairs (x ∷ xs) (y ∷ ys) p q f g =
    let least : x ≡ y =
    one (Contains-cons_cases y ys x (f x (Contains-head x xs)))
    (Contains-cons_cases x xs y (g y (Contains-head y ys))) in
    rw least
    (ap (λ r. y ∷ r) (same_pairs xs ys (AllPairs-tail (λ a b. a < b) x xs p) (AllPairs-tail (λ a b. a < b) y ys q)
    (λ m h. elim (Contains-cons_cases y ys m (f m (Contains-tail x xs m h))) [
      | inl e ↦
          let above : x < m = All-contains (λ b. x < b) xs m (AllPairs-head (λ a b. a < b) x xs p) h in
          absurd (omega arith)
      | inr t ↦ t
    ])
    (λ m h. elim (Contains-cons_cases x xs m (g m (Contains-tail y ys m h))) [
      | inl e ↦
          let above : y < m = All-contains (λ b. y < b) ys m (AllPairs-head (λ a b. a < b) y ys q) h in
          absurd (omega arith)
      | inr t ↦ t
    ]))) where
      one : (y ≡ x) ⊎ Contains ys x → (x ≡ y) ⊎ Contains xs y → x ≡ y
      one (inl e) k = sym e
      one (inr t) (inl e) = e
      one (inr t) (inr s) =
          let a : y < x = All-contains (λ b. y < b) ys x (AllPairs-head (λ a b. a < b) y ys q) t in
          let b : x < y = All-contains (λ b. x < b) xs y (AllPairs-head (λ a b. a < b) x xs p) s in
          absurd (omega arith)

-- rising clauses with the same literals are the same
pub same_rising : (xs ys : List ℕ) → IsStrictlyIncreasing xs → IsStrictlyIncreasing ys
    → ((m : ℕ) → Contains xs m → Contains ys m) → ((m : ℕ) → Contains ys m → Contains xs m)
    → xs ≡ ys
same_rising xs ys p q f g = same_pairs xs ys (AllPairs-from_increasing xs p) (AllPairs-from_increasing ys q) f g

-- a literal from the start on is counted once: the others stand before it
pub unique_of : (clauses : List (List ℕ)) (row : List ℕ) (start first : ℕ) (marks : List Bool) (kept : List ℕ)
    (steps : List Step) (place : ℕ)
    → start ≤ place → mark_at marks place ≡ true → length marks ≡ length row
    → IsCounted row start marks kept 1 → IsDerivedDownTo clauses row marks first steps (place + 1)
    → IsUnique clauses row start first marks kept steps place
unique_of clauses row start first marks kept steps place high here long counted d = record {
  high = high;
  inside = omega (arith, marked_in marks place here);
  here = here;
  only = λ k le on. elim (same_or k place) [
    | inl e ↦ e
    | inr ne ↦
        let less = counted_less row start marks kept 1 counted place (marked_in marks place here) high here in
        let still : mark_at (set marks place false) k ≡ true = get_or-set_other marks place k false false ne ∙ on in
        let some = some_counted row start (set marks place false) kept (1 - 1) k less.1 le still in
        absurd (omega arith)
  ];
  keeps = record { has = counted.has; gives = counted.gives };
  reached = d.reached;
  few = omega (arith, d.few);
}

module _ (clauses : List (List ℕ)) (row : List ℕ) (start first : ℕ) (marks : List Bool) (kept : List ℕ)
    (steps : List Step) (place : ℕ) (u : IsUnique clauses row start first marks kept steps place) where
  -- a rising clause of the literal that is left and the kept ones is the chain's clause
  pub chain_derives : (c : List ℕ) → IsStrictlyIncreasing c → first < length clauses
      → ((m : ℕ) → Contains c m → Contains kept m ⊎ (m ≡ opposite_of (get_or row place 0)))
      → Contains c (opposite_of (get_or row place 0)) → ((m : ℕ) → Contains kept m → Contains c m)
      → clause_of clauses (record { first = first; steps = steps }) ≡ Ok c
  chain_derives c rises lt from here all =
      let d = u.reached in
      let same : d.current ≡ c = same_rising d.current c d.rises rises
      (λ m h. let k = d.marked.has m h in elim (dec_lt k.0 start) [
        | yes low ↦ rw k.3 (all (opposite_of (get_or row k.0 0)) (u.keeps.gives k.0 low k.2))
        | no high ↦ let e : k.0 ≡ place = u.only k.0 (omega arith) k.2 in rw (k.3, e) here
      ])
      (λ m h. elim (from m h) [
        | inl old ↦ let k = u.keeps.has m old in rw k.3 (d.marked.gives k.0 (below k.0 k.1) k.2)
        | inr e ↦ rw e (d.marked.gives place u.inside u.here)
      ]) in
      rw (slice_get-get_or clauses first [] lt) (d.derived ∙ ap (λ r. Ok r) same) where
        below : (k : ℕ) → k < start → k < length row
        below k lk = omega (arith, u.high, u.inside)

-- the steps that leave no place marked come to the empty clause
pub chain_empties : (clauses : List (List ℕ)) (row : List ℕ) (marks : List Bool) (first : ℕ) (steps : List Step)
    → IsReachedClause clauses row marks first steps → first < length clauses
    → ((k : ℕ) → k < length row → mark_at marks k ≡ true → ⊥)
    → clause_of clauses (record { first = first; steps = steps }) ≡ Ok []
chain_empties clauses row marks first steps d lt none =
    rw (slice_get-get_or clauses first [] lt)
    (d.derived ∙ ap (λ r. Ok r) (empty d.current (λ m h. let k = d.marked.has m h in none k.0 k.1 k.2))) where
      empty : (c : List ℕ) → ((m : ℕ) → Contains c m → ⊥) → c ≡ []
      empty [] f = refl
      empty (x ∷ xs) f = absurd (f x (Contains-head x xs))
