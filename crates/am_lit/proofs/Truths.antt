-- True literals and true clauses.
use Rattle.std.proofs.Common.{ℕ, ◌≡◌, ◌+◌, ◌-◌, ◌/◌, ◌%◌, Bool, true, false, not, cond, eqb, List, refl, arith, [], ◌∷◌}
use Rattle.std.proofs.Common.{inl, inr, ◌||◌}
use Rattle.std.specs.Prelude.{Contains}
use Rattle.std.proofs.lemmas.Bool.Decides.{nat_tests}
use Rattle.std.proofs.lemmas.List.Folds.{Any-from_list_any}
use Rattle.am_lit.specs.Literal.{opposite_of}
use Rattle.am_lit.proofs.Members.{Contains-nil, Contains-cons_cases}
use Rattle.am_lit.specs.Truth.{literal_value, clause_value}

opposite_by : (l : ℕ) → (b : Bool) → eqb (l % 2) 0 ≡ b → (v : ℕ → Bool)
    → literal_value v (cond b (l + 1) (l - 1)) ≡ not (cond b (v (l / 2)) (not (v (l / 2))))
opposite_by l true e v =
    let even : l % 2 ≡ 0 = grind (arith, nat_tests) in
    let odd : (l + 1) % 2 ≡ 1 = omega arith in
    let half : (l + 1) / 2 ≡ l / 2 = omega arith in
    rw (odd, half) refl
opposite_by l false e v =
    let odd : l % 2 ≡ 1 = grind (arith, nat_tests) in
    let even : (l - 1) % 2 ≡ 0 = omega arith in
    let half : (l - 1) / 2 ≡ l / 2 = omega arith in
    rw (even, half) (twice (v (l / 2))) where
      twice : (b : Bool) → b ≡ not (not b)
      twice true = refl
      twice false = refl

-- an opposite literal has the other value
pub literal_value-opposite_of : (v : ℕ → Bool) (l : ℕ) → literal_value v (opposite_of l) ≡ not (literal_value v l)
literal_value-opposite_of v l = opposite_by l (eqb (l % 2) 0) refl v

-- a true clause has a true literal
pub true_literal : (v : ℕ → Bool) (c : List ℕ) → clause_value v c ≡ true
    → (l : ℕ) × Contains c l × (literal_value v l ≡ true)
true_literal v c h = let some = Any-from_list_any (literal_value v) c h in (some.1, (some.0, some.2, some.3), some.4)

-- a clause with a true literal is true
pub clause_holds : (v : ℕ → Bool) (c : List ℕ) (l : ℕ) → Contains c l → literal_value v l ≡ true
    → clause_value v c ≡ true
clause_holds v [] l h t = absurd (Contains-nil l h)
clause_holds v (m ∷ ms) l h t = elim (Contains-cons_cases m ms l h) [
  | inl e ↦ rw (e, t) refl
  | inr there ↦ rw (clause_holds v ms l there t) (or_true (literal_value v m))
] where
  or_true : (b : Bool) → (b || true) ≡ true
  or_true true = refl
  or_true false = refl
