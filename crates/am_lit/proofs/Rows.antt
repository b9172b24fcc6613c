-- Unit rows: more clauses, what holds, and clauses that are new over them.
use Rattle.std.proofs.Common.{ℕ, ◌≡◌, Bool, true, false, not, eqb, List, [], ◌∷◌, ◌++◌, All, map, refl, sym, ◌∙◌, inl}
use Rattle.std.proofs.Common.{inr}
use Rattle.std.specs.Prelude.{Contains, ◌≢◌, IsTrue}
use Rattle.std.proofs.lemmas.Bool.{ne_eqb}
use Rattle.std.proofs.lemmas.List.Elements.{All-nil, All-cons, All-head, All-tail, All-weaker, All-contains}
use Rattle.std.proofs.lemmas.List.Elements.{All-contains_itself, Contains-append_left}
use Rattle.am_lit.specs.Literal.{opposite_of}
use Rattle.am_lit.specs.Truth.{literal_value, clause_value, AllHold, Satisfies}
use Rattle.am_lit.specs.UnitRow.{IsForcedBy, IsUnitStep, IsUnitRow, MeetsConflict, IsNew, without}
use Rattle.am_lit.proofs.Members.{Contains-head, Contains-map, Contains-filter, member_or, same_or}
use Rattle.am_lit.proofs.Truths.{literal_value-opposite_of, true_literal}

-- unit rows stay unit rows when clauses are added
pub IsUnitRow-append : (clauses more : List (List ℕ)) (given row : List ℕ) → IsUnitRow clauses given row
    → IsUnitRow (clauses ++ more) given row
IsUnitRow-append clauses more given [] u = tt
IsUnitRow-append clauses more given (l ∷ row) u = (step u.0, IsUnitRow-append clauses more given row u.1) where
  step : IsUnitStep clauses given row l → IsUnitStep (clauses ++ more) given row l
  step (inl g) = inl g
  step (inr f) = inr (f.0, Contains-append_left clauses more f.0 f.1, f.2)

-- where a row holds, no literal does whose opposite is in the row
false_in : (v : ℕ → Bool) (row : List ℕ) (m : ℕ) → AllHold v row → Contains row (opposite_of m)
    → ¬ (literal_value v m ≡ true)
false_in v row m holds h t =
    let opposite : literal_value v (opposite_of m) ≡ true =
    All-contains (λ l. IsTrue (literal_value v l)) row (opposite_of m) holds h in
    let other = literal_value-opposite_of v m in
    let untrue : not (literal_value v m) ≡ true = sym other ∙ opposite in
    let clash : false ≡ true = rw t at untrue in
    cc

module _ (v : ℕ → Bool) (clauses : List (List ℕ)) (satisfied : Satisfies v clauses) where
  -- a forced literal holds where the row does
  forced_holds : (row c : List ℕ) (l : ℕ) → AllHold v row → Contains clauses c → IsForcedBy row c l
      → literal_value v l ≡ true
  forced_holds row c l holds h f =
      let some = true_literal v c (All-contains (λ d. IsTrue (clause_value v d)) clauses c satisfied h) in
      elim (same_or some.0 l) [
        | inl e ↦ rw (← e) some.2
        | inr ne ↦
            absurd
            (false_in v row some.0 holds
            (All-contains (λ m. m ≢ l → Contains row (opposite_of m)) c some.0 f.1 some.1 ne) some.2)
      ]

  -- the literals of a unit row hold where the given ones do
  pub AllHold-row : (given row : List ℕ) → AllHold v given → IsUnitRow clauses given row → AllHold v row
  AllHold-row given [] g u = All-nil (λ l. IsTrue (literal_value v l))
  AllHold-row given (l ∷ row) g u =
      let rest = AllHold-row given row g u.1 in
      All-cons (λ m. IsTrue (literal_value v m)) l row (elim u.0 [
        | inl there ↦ All-contains (λ m. IsTrue (literal_value v m)) given l g there
        | inr f ↦ forced_holds row f.0 l rest f.1 f.2
      ]) rest

  -- a unit row from literals that hold meets no conflict
  pub no_conflict : (given row : List ℕ) → AllHold v given → IsUnitRow clauses given row → ¬ (MeetsConflict clauses row)
  no_conflict given row g u k =
      let some = true_literal v k.0 (All-contains (λ d. IsTrue (clause_value v d)) clauses k.0 satisfied k.1) in
      false_in v row some.0 (AllHold-row given row g u)
      (All-contains (λ m. Contains row (opposite_of m)) k.0 some.0 k.2 some.1) some.2

-- given literals are a unit row
pub given_row : (clauses : List (List ℕ)) (given row : List ℕ) → All (Contains given) row → IsUnitRow clauses given row
given_row clauses given [] h = tt
given_row clauses given (l ∷ row) h =
    (inl (All-head (Contains given) l row h), given_row clauses given row (All-tail (Contains given) l row h))

-- an earlier clause that is a subset of c would force c's literal, or be a conflict
pub no_subset : (clauses : List (List ℕ)) (c d : List ℕ) → IsNew clauses c → Contains clauses d → ¬ (All (Contains c) d)
no_subset clauses c d n h sub = elim (member_or d l) [
  | inl there ↦
      (n.1.2 (l ∷ given) (
        inr (d, h, (there, All-weaker (Contains c) (λ m. m ≢ l → Contains given (opposite_of m)) false_given d sub)),
        here,
      )).0
      (Contains-head l given)
  | inr absent ↦ (n.1.2 given here).1 (
    d,
    h,
    All-weaker (Contains d) (λ m. Contains given (opposite_of m))
        (λ m k. false_given m (All-contains (Contains c) d m sub k) (λ e. absent (rw (← e) k))) d
        (All-contains_itself d),
  )
] where
  l : ℕ
  l = n.1.0

  given : List ℕ
  given = map opposite_of (without l c)

  here : IsUnitRow clauses given given
  here = given_row clauses given given (All-contains_itself given)

  false_given : (m : ℕ) → Contains c m → m ≢ l → Contains given (opposite_of m)
  false_given m k ne =
      Contains-map opposite_of (without l c) m (Contains-filter (λ q. not (eqb q l)) c m k (rw (ne_eqb m l ne) refl))
