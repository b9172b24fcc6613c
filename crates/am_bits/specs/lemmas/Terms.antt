-- Which comparisons hold where the word that they give isn't 0.
use Rattle.std.proofs.Common.{◌≡◌, ◌≢◌, ℕ, ◌≤◌, ◌↔◌, IsTrue, nat_le, ◌==◌, bit_and, arith}
use Rattle.std.proofs.lemmas.Bool.{eqb-true, eq-eqb}
use Rattle.std.proofs.lemmas.Bool.Decides.{nat_tests}
use Rattle.am_bv.specs.Words.{one_if}

-- the test of equality holds where two numbers are equal, and nowhere else
pub equals : (x y : ℕ) → IsTrue (x == y) ↔ (x ≡ y)
equals x y = (eqb-true x y, eq-eqb x y)

-- the word of a test of equality isn't 0 exactly where the numbers are equal
pub equality-tells : (x y : ℕ) → (one_if (x == y) ≢ 0) ↔ (x ≡ y)
equality-tells x y = grind (arith, nat_tests)

-- two tests of equality, joined bit by bit, tell that both hold
pub equalities-tell : (x y z u : ℕ) → (bit_and (one_if (x == y)) (one_if (z == u)) ≢ 0) ↔ ((x ≡ y) × (z ≡ u))
equalities-tell x y z u = grind (arith, nat_tests)

-- two tests of order, joined bit by bit, tell that both hold
pub orders-tell : (x y z u : ℕ) → (bit_and (one_if (nat_le x y)) (one_if (nat_le z u)) ≢ 0) ↔ ((x ≤ y) × (z ≤ u))
orders-tell x y z u = grind (arith, nat_tests)

-- equivalences follow one another
pub iff-trans : {A B C : Type 0} → A ↔ B → B ↔ C → A ↔ C
iff-trans f g = (λ a. g.0 (f.0 a), λ c. f.1 (g.1 c))
