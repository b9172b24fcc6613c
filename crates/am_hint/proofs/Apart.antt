-- A clause without both signs of a variable is derived from such clauses alone.
use Rattle.std.proofs.Common.{ℕ, ◌≡◌, ◌≢◌, ◌<◌, true, false, List, [], ◌∷◌, get_or, sym, ap, ◌∙◌, inl, inr, arith}
use Rattle.std.specs.Prelude.{Contains}
use Rattle.std.specs.List.Sorted.{IsStrictlyIncreasing}
use Rattle.std.proofs.lemmas.Bool.{false≢true}
use Rattle.std.proofs.lemmas.List.Elements.{All-contains, All-contains_itself}
use Rattle.std.proofs.lemmas.List.Kept.{AllPairs-from_increasing}
use Rattle.am_lit.specs.Clause.{NoVariableTwice}
use Rattle.am_lit.specs.Literal.{opposite_of, variable_of}
use Rattle.am_lit.specs.UnitRow.{IsConsistent}
use Rattle.am_lit.proofs.Laws.{AllPairs-head, AllPairs-tail, Contains-cons_cases, Contains-nil, opposite_of-differs}
use Rattle.am_lit.proofs.Laws.{opposite_of-opposite_of, other_literal, same_or, variable_of-opposite_of}
use Rattle.am_chain.specs.ChainLaws.{IsRisingBelow}
use Rattle.am_chain.specs.Resolvent.{has_pivot, resolvent}
use Rattle.am_chain.proofs.Laws.{has_pivot_iff, into_resolvent}
use Rattle.am_hint.specs.Hints.{is_normal}
use Rattle.am_hint.proofs.NormalTests.{normal_tests_are_right}

-- a clause that lacks a literal doesn't hold its variable in both signs
other_variable : (c : List ℕ) (a m : ℕ) → ¬ (Contains c a) → Contains c m → Contains c (opposite_of m)
    → variable_of m ≢ variable_of a
other_variable c a m absent there opposite same = elim (same_or m a) [
  | inl e ↦ absent (rw e at there)
  | inr ne ↦
      let is : m ≡ opposite_of a = other_literal a m same ne in
      let back : opposite_of m ≡ a = ap opposite_of is ∙ opposite_of-opposite_of a in
      absent (rw back at opposite)
]

-- a resolvent that holds no variable in both signs comes from two such clauses
pub resolved_apart : (v : ℕ) (c d : List ℕ) → IsStrictlyIncreasing c → IsStrictlyIncreasing d → has_pivot v c d ≡ true
    → IsConsistent (resolvent v c d)
    → IsConsistent c × IsConsistent d
resolved_apart v c d rc rd pivot apart =
    let p = (has_pivot_iff v c d rc rd).0 pivot in
    let l = p.0 in (
      (λ m h k.
          let ne : variable_of m ≢ v = (λ e. other_variable c (opposite_of l) m p.2.first_only h k
          (e ∙ sym p.1 ∙ sym (variable_of-opposite_of l))) in
          apart m (into_resolvent v c d m (inl h) ne)
          (into_resolvent v c d (opposite_of m) (inl k) (λ e. ne (sym (variable_of-opposite_of m) ∙ e)))),
      (λ m h k.
          let ne : variable_of m ≢ v = (λ e. other_variable d l m p.2.second_only h k (e ∙ sym p.1)) in
          apart m (into_resolvent v c d m (inr h) ne)
          (into_resolvent v c d (opposite_of m) (inr k) (λ e. ne (sym (variable_of-opposite_of m) ∙ e)))),
    )

-- a clause in order that holds no variable in both signs holds none twice
pub consistent_apart : (c : List ℕ) → IsStrictlyIncreasing c → IsConsistent c → NoVariableTwice c
consistent_apart c rising apart = λ i j d lt within same.
    let less : get_or c i d < get_or c j d = AllPairs-from_increasing c rising i j d lt within in
    let is : get_or c j d ≡ opposite_of (get_or c i d) =
    other_literal (get_or c i d) (get_or c j d) (sym same) (λ e. omega arith) in
    apart (get_or c i d) (All-contains_itself c i d (omega arith)) (rw is at (All-contains_itself c j d within))

-- a clause that holds no variable twice holds none in both signs
pub apart_consistent : (c : List ℕ) → NoVariableTwice c → IsConsistent c
apart_consistent [] apart l h k = Contains-nil l h
apart_consistent (x ∷ xs) apart l h k = elim (Contains-cons_cases x xs l h) [
  | inl e ↦ elim (Contains-cons_cases x xs (opposite_of l) k) [
    | inl f ↦ opposite_of-differs l (sym f ∙ e)
    | inr t ↦ head (opposite_of l) t (ap variable_of e ∙ sym (variable_of-opposite_of l))
  ]
  | inr t ↦ elim (Contains-cons_cases x xs (opposite_of l) k) [
    | inl f ↦ head l t (ap variable_of f ∙ variable_of-opposite_of l)
    | inr u ↦ apart_consistent xs (AllPairs-tail (λ a b. variable_of a ≢ variable_of b) x xs apart) l t u
  ]
] where
  head : (m : ℕ) → Contains xs m → variable_of x ≢ variable_of m
  head m t =
      All-contains (λ b. variable_of x ≢ variable_of b) xs m
      (AllPairs-head (λ a b. variable_of a ≢ variable_of b) x xs apart) t

-- a clause in order over the first variables that isn't normal holds a variable in both signs
pub not_normal : (vars : ℕ) (c : List ℕ) → IsRisingBelow vars c → is_normal vars c ≡ false → ¬ (IsConsistent c)
not_normal vars c ordered e apart =
    let normal : is_normal vars c ≡ true = (normal_tests_are_right vars c).1
    (record { rising = ordered.rising; apart = consistent_apart c ordered.rising apart; below = ordered.below }) in
    false≢true (sym e ∙ normal)

-- a normal clause holds no variable in both signs
pub normal_consistent : (vars : ℕ) (c : List ℕ) → is_normal vars c ≡ true → IsConsistent c
normal_consistent vars c e = apart_consistent c ((normal_tests_are_right vars c).0 e).apart
