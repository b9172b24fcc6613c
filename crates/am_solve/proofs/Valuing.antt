-- The assignment that is read from a trail.
use Rattle.std.proofs.Common.{ℕ, ◌≡◌, ◌≢◌, ◌+◌, ◌*◌, ◌/◌, ◌%◌, ◌<◌, Bool, true, false, not, List, [], ◌∷◌, ◌++◌, All}
use Rattle.std.proofs.Common.{length, map, get_or, refl, sym, inl, inr, arith}
use Rattle.std.specs.Prelude.{Contains, IsTrue}
use Rattle.std.proofs.lemmas.Bool.{eq-eqb, ne_eqb}
use Rattle.std.proofs.lemmas.List.{get_or_append_left}
use Rattle.std.proofs.lemmas.List.Elements.{All-contains_itself, All-weaker}
use Rattle.std.proofs.Math.Seq.{get_or-append_seam}
use Rattle.am_lit.specs.Literal.{literal_of, variable_of}
use Rattle.am_lit.specs.Clause.{IsNormal}
use Rattle.am_lit.specs.Truth.{AllHold, Satisfies, literal_value, value_at}
use Rattle.am_lit.specs.UnitRow.{IsConsistent, IsSettled}
use Rattle.am_lit.proofs.Laws.{same_or, satisfied_by_settled, other_literal}
use Rattle.am_solve.proofs.Branching.{no_value}

-- the literal that is true where its variable has a value
abbrev pub HasItsValue : List ℕ → ℕ → Bool → Type 0
HasItsValue row v b = Contains row (literal_of v (not b))

-- each variable below the number of values has its value
abbrev pub HaveTheirValues : List ℕ → List Bool → Type 0
HaveTheirValues row values = (v : ℕ) → v < length values → HasItsValue row v (get_or values v false)

-- one more variable gets the value that the row gives it
pub values_more : (row : List ℕ) (values : List Bool) (v : ℕ) (b : Bool) → length values ≡ v
    → HaveTheirValues row values → HasItsValue row v b
    → (u : ℕ) → u < v + 1 → HasItsValue row u (get_or (values ++ b ∷ []) u false)
values_more row values v b long h here u lt = elim (same_or u v) [
  | inl e ↦ rw (e, ← long, get_or-append_seam values b [] false, long) here
  | inr ne ↦ let low : u < length values = omega arith in rw (get_or_append_left values (b ∷ []) false u low) (h u low)
]

-- the literal of a variable is true where the variable has its value
variable_of-literal_of : (v : ℕ) (b : Bool) → variable_of (literal_of v (not b)) ≡ v
variable_of-literal_of v true = omega arith
variable_of-literal_of v false = omega arith

value_is : (f : ℕ → Bool) (v : ℕ) (b : Bool) → f v ≡ b → IsTrue (literal_value f (literal_of v (not b)))
value_is f v true e =
    let even : (2 * v) % 2 ≡ 0 = omega arith in
    let half : (2 * v) / 2 ≡ v = omega arith in
    rw (eq-eqb ((2 * v) % 2) 0 even, half, e) refl
value_is f v false e =
    let odd : (2 * v + 1) % 2 ≢ 0 = omega arith in
    let half : (2 * v + 1) / 2 ≡ v = omega arith in
    rw (ne_eqb ((2 * v + 1) % 2) 0 odd, half, e) refl

-- each literal of the row holds
pub all_hold : (row : List ℕ) (values : List Bool) → IsConsistent row → HaveTheirValues row values
    → ((l : ℕ) → Contains row l → variable_of l < length values)
    → AllHold (value_at values) row
all_hold row values consistent h below =
    All-weaker (Contains row) (λ l. IsTrue (literal_value (value_at values) l)) one row (All-contains_itself row) where
      one : (l : ℕ) → Contains row l → IsTrue (literal_value (value_at values) l)
      one l there =
          let v = variable_of l in
          let b = get_or values v false in
          let m = literal_of v (not b) in
          let has = h v (below l there) in
          elim (same_or l m) [
            | inl e ↦ rw e (value_is (value_at values) v b refl)
            | inr ne ↦ absurd (consistent m has (rw (other_literal m l (sym (variable_of-literal_of v b)) ne) at there))
          ]

-- a row that settles normal clauses, and has a value for each variable, satisfies them
pub all_satisfied : (row : List ℕ) (values : List Bool) (clauses : List (List ℕ)) (vars : ℕ)
    → AllHold (value_at values) row → All (IsSettled row) clauses → All (IsNormal vars) clauses
    → ((v : ℕ) → v < vars → Contains (map variable_of row) v) → Satisfies (value_at values) clauses
all_satisfied row values clauses vars holds settled normal total =
    satisfied_by_settled (value_at values) row holds clauses settled
    (λ k d lt. λ j e lj free. no_value row (get_or (get_or clauses k d) j e) free
    (total (variable_of (get_or (get_or clauses k d) j e)) ((normal k d lt).below j e lj)))
