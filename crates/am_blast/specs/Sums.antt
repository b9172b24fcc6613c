-- Sums of words.
use Rattle.std.specs.Prelude.{ℕ, List, [], ◌∷◌}
use Rattle.am_gate.specs.Circuit.{Event.Xor, Event.Mux}
use Rattle.am_gate.specs.Build.{Step, ◌>>=◌, answer, ask}

-- the sum and the carry of three bits
unfoldable pub full_adder : ℕ → ℕ → ℕ → Step (ℕ × ℕ)
full_adder a b c = do
  half ← ask (Xor a b)
  sum ← ask (Xor half c)
  carry ← ask (Mux half c a)
  answer (sum, carry)

-- the sum of two words and a carry, and the last carry
unfoldable pub adder : List ℕ → List ℕ → ℕ → Step (List ℕ × ℕ)
adder [] ys c = answer ([], c)
adder (x ∷ xs) [] c = answer ([], c)
adder (x ∷ xs) (y ∷ ys) c = do
  one ← full_adder x y c
  rest ← adder xs ys one.1
  answer (one.0 ∷ rest.0, rest.1)

-- the sum of two words and a carry, without the last carry
unfoldable pub sum_of : List ℕ → List ℕ → ℕ → Step (List ℕ)
sum_of a b c = do
  both ← adder a b c
  answer both.0

-- the last carry of the sum of two words and a carry
unfoldable pub carry_of : List ℕ → List ℕ → ℕ → Step ℕ
carry_of a b c = do
  both ← adder a b c
  answer both.1
