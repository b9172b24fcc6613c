-- Tests of words: each gives one literal, which is true where the test holds.
use Rattle.std.specs.Prelude.{ℕ, ◌*◌, List, [], ◌∷◌}
use Rattle.am_lit.specs.Literal.{opposite_of}
use Rattle.am_gate.specs.Circuit.{Event.And, Event.Xor, truth, falsity}
use Rattle.am_gate.specs.Build.{Step, ◌>>=◌, answer, ask}
use Rattle.am_blast.specs.declared.relation.Relation.{Relation}
use Rattle.am_blast.specs.declared.relation.Relation.TheVariants.{Equal, Below, AtMost, SignedBelow, SignedAtMost}
use Rattle.am_blast.specs.Words.{opposites, flag, sign_turned}
use Rattle.am_blast.specs.Bitwise.{either}
use Rattle.am_blast.specs.Sums.{carry_of}

-- whether a is below b
unfoldable pub below : List ℕ → List ℕ → Step ℕ
below a b = do
  carry ← carry_of a (opposites b) truth
  answer (opposite_of carry)

-- whether a is at most b
abbrev pub most : List ℕ → List ℕ → Step ℕ
most a b = carry_of b (opposites a) truth

-- whether e holds and the words are equal
unfoldable pub equal_from : ℕ → List ℕ → List ℕ → Step ℕ
equal_from e [] ys = answer e
equal_from e (x ∷ xs) [] = answer e
equal_from e (x ∷ xs) (y ∷ ys) = do
  differ ← ask (Xor x y)
  next ← ask (And e (opposite_of differ))
  equal_from next xs ys

-- whether the words are equal
abbrev pub equal : List ℕ → List ℕ → Step ℕ
equal a b = equal_from truth a b

-- whether n holds or some bit of the word is set
unfoldable pub nonzero_from : ℕ → List ℕ → Step ℕ
nonzero_from n [] = answer n
nonzero_from n (x ∷ xs) = do
  next ← either n x
  nonzero_from next xs

-- whether some bit of the word is set
abbrev pub nonzero : List ℕ → Step ℕ
nonzero a = nonzero_from falsity a

-- whether two words are in a relation
abbrev pub test_of : Relation → List ℕ → List ℕ → Step ℕ
test_of Equal a b = equal a b
test_of Below a b = below a b
test_of AtMost a b = most a b
test_of SignedBelow a b = below (sign_turned a) (sign_turned b)
test_of SignedAtMost a b = most (sign_turned a) (sign_turned b)

-- how many gates the test of words of w bits takes
abbrev pub test_weight : Relation → ℕ → ℕ
test_weight Equal w = 2 * w
test_weight Below w = 3 * w
test_weight AtMost w = 3 * w
test_weight SignedBelow w = 3 * w
test_weight SignedAtMost w = 3 * w

-- a test as a word of w bits
unfoldable pub flagged : ℕ → Step ℕ → Step (List ℕ)
flagged w test = do
  l ← test
  answer (flag w l)
