-- Gates at each bit of two words, from bit 0.
use Rattle.std.specs.Prelude.{ℕ, List, [], ◌∷◌}
use Rattle.am_lit.specs.Literal.{opposite_of}
use Rattle.am_gate.specs.Circuit.{Event.And, Event.Xor, Event.Mux, IsLiteral}
use Rattle.am_gate.specs.Build.{Step, ◌>>=◌, answer, ask}
use Rattle.am_blast.specs.declared.bitwise.Gate.{Gate}
use Rattle.am_blast.specs.declared.bitwise.Gate.TheVariants.{Both, Either, Differ, Choose}

-- at least one of two literals
unfoldable pub either : ℕ → ℕ → Step ℕ
either a b = do
  neither ← ask (And (opposite_of a) (opposite_of b))
  answer (opposite_of neither)

-- a gate of two literals
abbrev pub gate_of : Gate → ℕ → ℕ → Step ℕ
gate_of Both a b = ask (And a b)
gate_of Either a b = either a b
gate_of Differ a b = ask (Xor a b)
gate_of (Choose c) a b = ask (Mux c a b)

-- the literal that chooses is one of a variable below a number
abbrev pub IsGateOver : ℕ → Gate → Type 0
IsGateOver vars Both = Unit {0}
IsGateOver vars Either = Unit {0}
IsGateOver vars Differ = Unit {0}
IsGateOver vars (Choose c) = IsLiteral vars c

-- the gate of each two bits at the same place
unfoldable pub bitwise : Gate → List ℕ → List ℕ → Step (List ℕ)
bitwise gate [] ys = answer []
bitwise gate (x ∷ xs) [] = answer []
bitwise gate (x ∷ xs) (y ∷ ys) = do
  first ← gate_of gate x y
  rest ← bitwise gate xs ys
  answer (first ∷ rest)

-- the word a where the test holds, else the word b
unfoldable pub choice : Step ℕ → List ℕ → List ℕ → Step (List ℕ)
choice test a b = do
  c ← test
  bitwise (Choose c) a b
