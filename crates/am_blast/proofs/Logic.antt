-- The operators that work on each bit.
use Rattle.std.proofs.Common.{◌≡◌, ℕ, ◌+◌, ◌*◌, ◌^◌, Bool, true, false, not, ◌&&◌, refl, sym, ◌∙◌, arith}
use Rattle.std.specs.Prelude.{bit_and, bit_or, bit_xor}
use Rattle.std.specs.Bool.{beq}
use Rattle.std.proofs.lemmas.List.{length-map}
use Rattle.std.proofs.lemmas.Nat.{and_block, or_block, xor_block}
use Rattle.am_gate.proofs.Laws.{Means-answer, Means-and, Means-xor, Makes-answer}
use Rattle.am_lit.specs.Literal.{opposite_of}
use Rattle.am_bv.specs.declared.op.Op.TheVariants.{Not, And as OpAnd, Or, Xor as OpXor}
use Rattle.am_blast.specs.declared.bitwise.Gate.TheVariants.{Both, Either, Differ}
use Rattle.am_blast.specs.Words.{bit}
use Rattle.am_blast.specs.Promises.{IsCircuitOf}
use Rattle.am_blast.proofs.Arguments.{of_one, of_two}
use Rattle.am_blast.proofs.Words.{complement-reads, IsWord-opposites}
use Rattle.am_blast.proofs.Bits.{Means-bitwise, Means-either, Makes-bitwise}

-- numbers by their lowest bits

low : (p q : ℕ) → p + 2 * q ≡ q * 2 ^ 1 + p
low p q = omega arith

and-bit : (x y : Bool) (m n : ℕ) → bit (x && y) + 2 * bit_and m n ≡ bit_and (bit x + 2 * m) (bit y + 2 * n)
and-bit x y m n = rw (low (bit x) m, low (bit y) n) (low (bit (x && y)) (bit_and m n) ∙ sym (go x y))
  where
    go : (x y : Bool) → bit_and (m * 2 ^ 1 + bit x) (n * 2 ^ 1 + bit y) ≡ bit_and m n * 2 ^ 1 + bit (x && y)
    go true true = and_block 1 m n 1 1 (omega arith) (omega arith)
    go true false = and_block 1 m n 1 0 (omega arith) (omega arith)
    go false true = and_block 1 m n 0 1 (omega arith) (omega arith)
    go false false = and_block 1 m n 0 0 (omega arith) (omega arith)

or-bit : (x y : Bool) (m n : ℕ) → bit (not (not x && not y)) + 2 * bit_or m n ≡ bit_or (bit x + 2 * m) (bit y + 2 * n)
or-bit x y m n = rw (low (bit x) m, low (bit y) n) (low (bit (not (not x && not y))) (bit_or m n) ∙ sym (go x y))
  where
    go : (x y : Bool) → bit_or (m * 2 ^ 1 + bit x) (n * 2 ^ 1 + bit y) ≡ bit_or m n * 2 ^ 1 + bit (not (not x && not y))
    go true true = or_block 1 m n 1 1 (omega arith) (omega arith)
    go true false = or_block 1 m n 1 0 (omega arith) (omega arith)
    go false true = or_block 1 m n 0 1 (omega arith) (omega arith)
    go false false = or_block 1 m n 0 0 (omega arith) (omega arith)

xor-bit : (x y : Bool) (m n : ℕ) → bit (not (beq x y)) + 2 * bit_xor m n ≡ bit_xor (bit x + 2 * m) (bit y + 2 * n)
xor-bit x y m n = rw (low (bit x) m, low (bit y) n) (low (bit (not (beq x y))) (bit_xor m n) ∙ sym (go x y))
  where
    go : (x y : Bool) → bit_xor (m * 2 ^ 1 + bit x) (n * 2 ^ 1 + bit y) ≡ bit_xor m n * 2 ^ 1 + bit (not (beq x y))
    go true true = xor_block 1 m n 1 1 (omega arith) (omega arith)
    go true false = xor_block 1 m n 1 0 (omega arith) (omega arith)
    go false true = xor_block 1 m n 0 1 (omega arith) (omega arith)
    go false false = xor_block 1 m n 0 0 (omega arith) (omega arith)

-- the operators

-- the circuit of the complement
pub not-circuit : (w : ℕ) → IsCircuitOf w Not
not-circuit w = of_one w Not refl
    (λ v a e. Means-answer _ (record { bits = length-map a opposite_of ∙ e; value = rw e at (complement-reads v a) }))
    (λ p a pos h. Makes-answer _ (IsWord-opposites w p.next a h))

-- the circuit of the bitwise and
pub and-circuit : (w : ℕ) → IsCircuitOf w OpAnd
and-circuit w = of_two w OpAnd refl
    (λ v a b ea eb. rw ea at (Means-bitwise v Both ◌&&◌ bit_and refl and-bit (Means-and v) a b (eb ∙ sym ea)))
    (λ p a b pos ha hb. rw ha.bits at (Makes-bitwise Both a b p (hb.bits ∙ sym ha.bits) tt ha.inside hb.inside))

-- the circuit of the bitwise or
pub or-circuit : (w : ℕ) → IsCircuitOf w Or
or-circuit w = of_two w Or refl
    (λ v a b ea eb. rw ea at
    (Means-bitwise v Either (λ x y. not (not x && not y)) bit_or refl or-bit (Means-either v) a b (eb ∙ sym ea)))
    (λ p a b pos ha hb. rw ha.bits at (Makes-bitwise Either a b p (hb.bits ∙ sym ha.bits) tt ha.inside hb.inside))

-- the circuit of the bitwise exclusive or
pub xor-circuit : (w : ℕ) → IsCircuitOf w OpXor
xor-circuit w = of_two w OpXor refl
    (λ v a b ea eb. rw ea at
    (Means-bitwise v Differ (λ x y. not (beq x y)) bit_xor refl xor-bit (Means-xor v) a b (eb ∙ sym ea)))
    (λ p a b pos ha hb. rw ha.bits at (Makes-bitwise Differ a b p (hb.bits ∙ sym ha.bits) tt ha.inside hb.inside))
