-- The circuits of the operators and of terms.
use Rattle.std.specs.Prelude.{ℕ, List, [], ◌∷◌, slice_index_or}
use Rattle.am_gate.specs.Circuit.{truth, falsity}
use Rattle.am_gate.specs.Build.{Step, ◌>>=◌, answer}
use Rattle.am_bv.specs.declared.op.Op.{Op}
use Rattle.am_bv.specs.declared.op.Op.TheVariants.{Not, Neg, And as OpAnd, Or, Xor as OpXor, Add, Sub, Mul, Udiv, Urem}
use Rattle.am_bv.specs.declared.op.Op.TheVariants.{Shl, Lshr, Ashr, Eq, Ult, Ule, Slt, Sle, Umin, Umax, Smin, Smax, Ite}
use Rattle.am_bv.specs.declared.term.Term.{Term, fold-Term}
use Rattle.am_bv.specs.declared.term.Term.TheOpen.{Term-F, Const, Field, Node}
use Rattle.am_blast.specs.declared.bitwise.Gate.TheVariants.{Both, Either, Differ}
use Rattle.am_blast.specs.declared.relation.Relation.TheVariants.{Equal, Below, AtMost, SignedBelow, SignedAtMost}
use Rattle.am_blast.specs.declared.shift.Direction.TheVariants.{Up, Down}
use Rattle.am_blast.specs.Words.{opposites, zeros, constant}
use Rattle.am_blast.specs.Bitwise.{bitwise, choice}
use Rattle.am_blast.specs.Sums.{sum_of}
use Rattle.am_blast.specs.Comparisons.{test_of, nonzero, flagged}
use Rattle.am_blast.specs.Products.{product}
use Rattle.am_blast.specs.Division.{quotient, remainder}
use Rattle.am_blast.specs.Shifts.{shifted, moved, top}

-- an operator over the words a, b and c of w literals, of which it takes as many as its arity
abbrev pub circuit_at : ℕ → Op → List ℕ → List ℕ → List ℕ → Step (List ℕ)
circuit_at w Not a b c = answer (opposites a)
circuit_at w Neg a b c = sum_of (opposites a) (zeros w) truth
circuit_at w OpAnd a b c = bitwise Both a b
circuit_at w Or a b c = bitwise Either a b
circuit_at w OpXor a b c = bitwise Differ a b
circuit_at w Add a b c = sum_of a b falsity
circuit_at w Sub a b c = sum_of a (opposites b) truth
circuit_at w Mul a b c = product a b
circuit_at w Udiv a b c = quotient a b
circuit_at w Urem a b c = remainder a b
circuit_at w Shl a b c = shifted (moved Up falsity) a b
circuit_at w Lshr a b c = shifted (moved Down falsity) a b
circuit_at w Ashr a b c = shifted (moved Down (top a)) a b
circuit_at w Eq a b c = flagged w (test_of Equal a b)
circuit_at w Ult a b c = flagged w (test_of Below a b)
circuit_at w Ule a b c = flagged w (test_of AtMost a b)
circuit_at w Slt a b c = flagged w (test_of SignedBelow a b)
circuit_at w Sle a b c = flagged w (test_of SignedAtMost a b)
circuit_at w Umin a b c = choice (test_of Below a b) a b
circuit_at w Umax a b c = choice (test_of Below a b) b a
circuit_at w Smin a b c = choice (test_of SignedBelow a b) a b
circuit_at w Smax a b c = choice (test_of SignedBelow a b) b a
circuit_at w Ite a b c = choice (nonzero a) b c

-- an operator over a list of as many words as its arity
abbrev pub circuit_of : ℕ → Op → List (List ℕ) → Step (List ℕ)
circuit_of w op args = circuit_at w op (slice_index_or args 0 []) (slice_index_or args 1 []) (slice_index_or args 2 [])

-- steps one after another, and what each gives
unfoldable pub in_turn : {A : Type 0} → List (Step A) → Step (List A)
in_turn [] = answer []
in_turn (m ∷ ms) = do
  first ← m
  rest ← in_turn ms
  answer (first ∷ rest)

-- the circuit of a term's root over the circuits of its arguments
abbrev pub blast_step : ℕ → List (List ℕ) → Term-F (Step (List ℕ)) → Step (List ℕ)
blast_step w fields (Const c) = answer (constant w c)
blast_step w fields (Field i) = answer (slice_index_or fields i [])
blast_step w fields (Node op args) = do
  words ← in_turn args
  circuit_of w op words

-- the circuit of a term at width w, where fields are the words of its fields: the arguments from left to
-- right, then the operator's own gates
unfoldable pub blasted : ℕ → List (List ℕ) → Term → Step (List ℕ)
blasted w fields t = fold-Term (Step (List ℕ)) (blast_step w fields) t
