-- Division, one bit of the dividend after another, from the top.
use Rattle.std.specs.Prelude.{ℕ, ◌+◌, List, [], ◌∷◌, ◌++◌, length, take, reverse}
use Rattle.am_gate.specs.Circuit.{truth, falsity}
use Rattle.am_gate.specs.Build.{Step, ◌>>=◌, answer}
use Rattle.am_blast.specs.declared.bitwise.Gate.TheVariants.{Choose}
use Rattle.am_blast.specs.declared.shift.Direction.TheVariants.{Up}
use Rattle.am_blast.specs.Words.{opposites, zeros}
use Rattle.am_blast.specs.Bitwise.{bitwise}
use Rattle.am_blast.specs.Shifts.{moved}
use Rattle.am_blast.specs.Sums.{adder}

-- one bit of the quotient and the next remainder: the remainder so far is moved up by the dividend's next
-- bit a, and the divisor b is taken away where it fits
unfoldable pub round : ℕ → List ℕ → List ℕ → Step (ℕ × List ℕ)
round a r b = do
  difference ← adder (moved Up a 1 r) (opposites b) truth
  next ← bitwise (Choose difference.1) difference.0 (moved Up a 1 r)
  answer (difference.1, next)

-- the quotient and the remainder after the dividend's bits from the top, of which q and r are those so far
unfoldable pub division_from : List ℕ → List ℕ → List ℕ → List ℕ → Step (List ℕ × List ℕ)
division_from [] q r b = answer (q, r)
division_from (x ∷ xs) q r b = do
  one ← round x r b
  division_from xs (one.0 ∷ q) one.1 b

-- the quotient and the remainder, which has one bit more than the words
abbrev pub division : List ℕ → List ℕ → Step (List ℕ × List ℕ)
division a b = division_from (reverse a) [] (zeros (length b + 1)) (b ++ falsity ∷ [])

-- the quotient of two words; by 0 all its bits are set
unfoldable pub quotient : List ℕ → List ℕ → Step (List ℕ)
quotient a b = do
  both ← division a b
  answer both.0

-- the remainder of two words; by 0 it is the dividend
unfoldable pub remainder : List ℕ → List ℕ → Step (List ℕ)
remainder a b = do
  both ← division a b
  answer (take (length b) both.1)
