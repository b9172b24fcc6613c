-- Products of words.
use Rattle.std.specs.Prelude.{ℕ, ◌+◌, ◌-◌, List, [], ◌∷◌, ◌++◌, length, take}
use Rattle.am_gate.specs.Circuit.{Event.And, falsity}
use Rattle.am_gate.specs.Build.{Step, ◌>>=◌, answer, ask}
use Rattle.am_blast.specs.Words.{zeros}
use Rattle.am_blast.specs.Sums.{sum_of}

-- each literal of the word together with b
unfoldable pub each_and : ℕ → List ℕ → Step (List ℕ)
each_and b [] = answer []
each_and b (x ∷ xs) = do
  first ← ask (And b x)
  rest ← each_and b xs
  answer (first ∷ rest)

-- acc and the product of a and the bits from bit i on, without what is above the word
unfoldable pub product_from : ℕ → List ℕ → List ℕ → List ℕ → Step (List ℕ)
product_from i acc a [] = answer acc
product_from i acc a (y ∷ ys) = do
  row ← each_and y (take (length a - i) a)
  next ← sum_of acc (zeros i ++ row) falsity
  product_from (i + 1) next a ys

-- the product of two words, without what is above the word
abbrev pub product : List ℕ → List ℕ → Step (List ℕ)
product a b = product_from 0 (zeros (length a)) a b
