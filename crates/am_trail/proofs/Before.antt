-- Which of two variables comes before the other.
use Rattle.std.proofs.Common.{ℕ, ◌≡◌, ◌≢◌, ◌<◌, ◌≤◌, Bool, true, false, eqb, List, get_or, arith, sym}
use Rattle.std.specs.Prelude.{nat_lt, ◌&&◌, ◌||◌}
use Rattle.std.proofs.lemmas.Bool.Decides.{nat_tests}
use Rattle.am_trail.specs.Orders.{comes_before}

-- the test, on two activities and two numbers
test : ℕ → ℕ → ℕ → ℕ → Bool
test x y v w = nat_lt y x || (eqb x y && nat_lt v w)

fails : (x y v w : ℕ) → test x y v w ≡ false → (x ≤ y) × (x ≡ y → w ≤ v)
unfolding test
fails x y v w e = (grind (arith, nat_tests), λ same. grind (arith, nat_tests))

fails_by : (x y v w : ℕ) → x ≤ y → (x ≡ y → w ≤ v) → test x y v w ≡ false
unfolding test
fails_by x y v w le same = grind (arith, nat_tests)

passes : (x y v w : ℕ) → test x y v w ≡ true → (y ≤ x) × (x ≡ y → v < w)
unfolding test
passes x y v w e = (grind (arith, nat_tests), λ same. grind (arith, nat_tests))

passes_by : (x y v w : ℕ) → y ≤ x → (x ≡ y → v < w) → test x y v w ≡ true
unfolding test
passes_by x y v w le same = grind (arith, nat_tests)

module _ (a : List ℕ) where
  at : ℕ → ℕ
  at v = get_or a v 0

  -- no variable comes before itself
  pub before_itself : (v : ℕ) → comes_before a v v ≡ false
  unfolding test at
  before_itself v = fails_by (at v) (at v) v v (omega arith) (λ e. omega arith)

  -- of two variables, one doesn't come before the other
  pub before_one : (v w : ℕ) → comes_before a v w ≡ true → comes_before a w v ≡ false
  unfolding test at
  before_one v w e = let h = passes (at v) (at w) v w e in
      fails_by (at w) (at v) w v h.0 (λ s. omega (arith, h.1 (sym s)))

  -- what comes after a variable that comes after another one comes after that one
  pub after_after : (v w x : ℕ) → comes_before a v w ≡ false → comes_before a w x ≡ false → comes_before a v x ≡ false
  unfolding test at
  after_after v w x e f =
      let h = fails (at v) (at w) v w e in
      let g = fails (at w) (at x) w x f in
      fails_by (at v) (at x) v x (omega (arith, h.0, g.0)) (λ s.
      let one : at v ≡ at w = omega (arith, h.0, g.0) in
      let two : at w ≡ at x = omega (arith, h.0, g.0) in
      omega (arith, h.1 one, g.1 two))

  -- of two different variables, one comes before the other
  pub before_other : (v w : ℕ) → comes_before a v w ≡ false → w ≢ v → comes_before a w v ≡ true
  unfolding test at
  before_other v w e ne = let h = fails (at v) (at w) v w e in
      passes_by (at w) (at v) w v h.0 (λ s. omega (arith, h.1 (sym s)))

  -- of variables that are as active, the one with the smaller number comes first
  pub after_same : (v w : ℕ) → get_or a v 0 ≡ get_or a w 0 → w ≤ v → comes_before a v w ≡ false
  unfolding test at
  after_same v w e le = fails_by (at v) (at w) v w (omega arith) (λ s. le)

-- a variable stays after one that became more active
pub after_raised : (a b : List ℕ) (v w : ℕ) → comes_before a v w ≡ false → get_or b v 0 ≡ get_or a v 0
    → get_or a w 0 ≤ get_or b w 0 → comes_before b v w ≡ false
unfolding test
after_raised a b v w e same more =
    let h = fails (get_or a v 0) (get_or a w 0) v w e in
    fails_by (get_or b v 0) (get_or b w 0) v w (omega (arith, h.0)) (λ s. let one : get_or a v 0 ≡ get_or a w 0 =
    omega (arith, h.0) in h.1 one)
