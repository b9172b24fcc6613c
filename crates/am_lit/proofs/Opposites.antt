-- Opposite literals: the two codes of one variable.
use Rattle.std.proofs.Common.{ℕ, ◌≡◌, ◌≢◌, ◌+◌, ◌-◌, ◌%◌, Bool, true, false, cond, eqb, refl, ◌⊎◌, inl, inr, arith}
use Rattle.std.proofs.lemmas.Bool.Decides.{nat_tests}
use Rattle.am_lit.specs.Literal.{opposite_of, variable_of}

-- a literal is even and its opposite the next code, or odd and its opposite the one before
pub opposite_parts : (l : ℕ) → ((l % 2 ≡ 0) × (opposite_of l ≡ l + 1)) ⊎ ((l % 2 ≡ 1) × (opposite_of l + 1 ≡ l))
opposite_parts l = go (eqb (l % 2) 0) refl where
  go : (b : Bool) → eqb (l % 2) 0 ≡ b
      → ((l % 2 ≡ 0) × (cond b (l + 1) (l - 1) ≡ l + 1)) ⊎ ((l % 2 ≡ 1) × (cond b (l + 1) (l - 1) + 1 ≡ l))
  go true e = inl (grind (arith, nat_tests), refl)
  go false e = let odd : l % 2 ≡ 1 = grind (arith, nat_tests) in inr (odd, omega arith)

-- an opposite has the same variable
pub variable_of-opposite_of : (l : ℕ) → variable_of (opposite_of l) ≡ variable_of l
variable_of-opposite_of l = elim (opposite_parts l)
    [ inl p ↦ omega (arith, p.0, p.1) | inr p ↦ omega (arith, p.0, p.1) ]

-- an opposite's opposite is the literal
pub opposite_of-opposite_of : (l : ℕ) → opposite_of (opposite_of l) ≡ l
opposite_of-opposite_of l = elim (opposite_parts l) [
  | inl p ↦ elim (opposite_parts (opposite_of l))
      [ inl q ↦ omega (arith, p.0, p.1, q.0, q.1) | inr q ↦ omega (arith, p.0, p.1, q.0, q.1) ]
  | inr p ↦ elim (opposite_parts (opposite_of l))
      [ inl q ↦ omega (arith, p.0, p.1, q.0, q.1) | inr q ↦ omega (arith, p.0, p.1, q.0, q.1) ]
]

-- an opposite is another literal
pub opposite_of-differs : (l : ℕ) → opposite_of l ≢ l
opposite_of-differs l e = elim (opposite_parts l) [ inl p ↦ omega (arith, p.1, e) | inr p ↦ omega (arith, p.1, e) ]

-- another literal of the same variable is the opposite
pub other_literal : (l m : ℕ) → variable_of m ≡ variable_of l → m ≢ l → m ≡ opposite_of l
other_literal l m v ne = elim (opposite_parts l)
    [ inl p ↦ omega (arith, p.0, p.1, v, ne) | inr p ↦ omega (arith, p.0, p.1, v, ne) ]
