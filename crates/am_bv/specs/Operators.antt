-- What the operators compute, as whole-number arithmetic modulo 2 ^ w. Division by zero, shifts by w or more and the
-- signed comparisons are those of SMT-LIB's fixed-size bit-vectors.
use Rattle.std.specs.Prelude.{ℕ, ◌+◌, ◌-◌, ◌*◌, ◌/◌, ◌%◌, ◌^◌, if◌then◌else◌, List, slice_index, nat_lt, nat_le, ◌==◌}
use Rattle.std.specs.Prelude.{min, max, bit_and, bit_or, bit_xor, int_lt, int_le}
use Rattle.am_bv.specs.declared.op.Op.{Op}
use Rattle.am_bv.specs.declared.op.Op.TheVariants.{Not, Neg, And, Or, Xor, Add, Sub, Mul, Udiv, Urem, Shl, Lshr, Ashr}
use Rattle.am_bv.specs.declared.op.Op.TheVariants.{Eq, Ult, Ule, Slt, Sle, Umin, Umax, Smin, Smax, Ite}
use Rattle.am_bv.specs.Words.{signed, complement, one_if}

-- how many arguments an operator takes
abbrev pub arity : Op → ℕ
arity Not = 1
arity Neg = 1
arity And = 2
arity Or = 2
arity Xor = 2
arity Add = 2
arity Sub = 2
arity Mul = 2
arity Udiv = 2
arity Urem = 2
arity Shl = 2
arity Lshr = 2
arity Ashr = 2
arity Eq = 2
arity Ult = 2
arity Ule = 2
arity Slt = 2
arity Sle = 2
arity Umin = 2
arity Umax = 2
arity Smin = 2
arity Smax = 2
arity Ite = 3

-- a shifted left by b bits
abbrev pub shl_of : ℕ → ℕ → ℕ → ℕ
shl_of w a b = if nat_lt b w then (a * 2 ^ b) % 2 ^ w else 0

-- a shifted right by b bits, with zeros moved in
abbrev pub lshr_of : ℕ → ℕ → ℕ → ℕ
lshr_of w a b = if nat_lt b w then a / 2 ^ b else 0

-- a shifted right by b bits, with copies of its top bit moved in
abbrev pub ashr_of : ℕ → ℕ → ℕ → ℕ
ashr_of w a b = if nat_lt a (2 ^ (w - 1)) then lshr_of w a b else complement w (lshr_of w (complement w a) b)

-- an operator at the words a, b and c, of which it reads as many as its arity
abbrev pub apply_at : ℕ → Op → ℕ → ℕ → ℕ → ℕ
apply_at w Not a b c = complement w a
apply_at w Neg a b c = (2 ^ w - a) % 2 ^ w
apply_at w And a b c = bit_and a b
apply_at w Or a b c = bit_or a b
apply_at w Xor a b c = bit_xor a b
apply_at w Add a b c = (a + b) % 2 ^ w
apply_at w Sub a b c = (a + (2 ^ w - b)) % 2 ^ w
apply_at w Mul a b c = (a * b) % 2 ^ w
apply_at w Udiv a b c = if b == 0 then 2 ^ w - 1 else a / b
apply_at w Urem a b c = if b == 0 then a else a % b
apply_at w Shl a b c = shl_of w a b
apply_at w Lshr a b c = lshr_of w a b
apply_at w Ashr a b c = ashr_of w a b
apply_at w Eq a b c = one_if (a == b)
apply_at w Ult a b c = one_if (nat_lt a b)
apply_at w Ule a b c = one_if (nat_le a b)
apply_at w Slt a b c = one_if (int_lt (signed w a) (signed w b))
apply_at w Sle a b c = one_if (int_le (signed w a) (signed w b))
apply_at w Umin a b c = min a b
apply_at w Umax a b c = max a b
apply_at w Smin a b c = if int_lt (signed w a) (signed w b) then a else b
apply_at w Smax a b c = if int_lt (signed w a) (signed w b) then b else a
apply_at w Ite a b c = if a == 0 then c else b

-- an operator at a list of as many words as its arity
abbrev pub apply : ℕ → Op → List ℕ → ℕ
apply w op args = apply_at w op (slice_index args 0) (slice_index args 1) (slice_index args 2)

-- how many gates the circuit of an operator takes at w bits
abbrev pub weight_of : ℕ → Op → ℕ
weight_of w Not = 0
weight_of w And = w
weight_of w Or = w
weight_of w Xor = w
weight_of w Mul = w * (w + 1) / 2 + 3 * w * w
weight_of w Udiv = 4 * w * (w + 1)
weight_of w Urem = 4 * w * (w + 1)
weight_of w Shl = w * w
weight_of w Lshr = w * w
weight_of w Ashr = w * w
weight_of w Eq = 2 * w
weight_of w Ite = 2 * w
weight_of w Umin = 4 * w
weight_of w Umax = 4 * w
weight_of w Smin = 4 * w
weight_of w Smax = 4 * w
weight_of w Neg = 3 * w
weight_of w Add = 3 * w
weight_of w Sub = 3 * w
weight_of w Ult = 3 * w
weight_of w Ule = 3 * w
weight_of w Slt = 3 * w
weight_of w Sle = 3 * w
