-- A shift to the right that moves in copies of a set top bit.
use Rattle.std.proofs.Common.{◌≡◌, ℕ, ◌+◌, ◌-◌, ◌*◌, ◌/◌, ◌%◌, ◌^◌, ◌<◌, ◌≤◌, suc, Bool, true, false, cond, nat_lt}
use Rattle.std.proofs.Common.{bit_or, refl, ap, sym, ◌∙◌, arith}
use Rattle.std.proofs.Math.Nat.{mod-lt, div-add-mod}
use Rattle.std.proofs.lemmas.Nat.{pow-add, pow_pos, div-mul-add, shr_below}
use Rattle.std.proofs.lemmas.Nat.Bits.{ones_shr}
use Rattle.std.specs.Int.Bits.{or_shifted_r, or_zero_l}
use Rattle.std.proofs.lemmas.Bool.{ltb-true}
use Rattle.std.proofs.lemmas.Bool.Decides.{leb_tells}
use Rattle.am_bv.specs.Words.{complement}
use Rattle.am_bv.specs.Operators.{lshr_of, ashr_of}
use Rattle.am_bv.proofs.Words.{one_less}

-- of m rows of p, what is left above a has one row less for each that a fills
div-complement : (m p a : ℕ) → 0 < p → a / p < m → (m * p - 1 - a) / p ≡ m - 1 - a / p
div-complement m p a h below =
    let q = a / p in
    let d = m - 1 - q in
    let rows : d * p + p + q * p ≡ m * p =
    let e : d + 1 + q ≡ m = omega (arith, below) in omega (arith, ap (λ k. k * p) e) in
    let parts = div-add-mod a p in
    let rest : p - 1 - a % p < p = omega (arith, h) in
    let e : m * p - 1 - a ≡ d * p + (p - 1 - a % p) = omega (arith, rows, parts, mod-lt a h) in
    ap (λ n. n / p) e ∙ div-mul-add d p (p - 1 - a % p) rest

or-complement : (w a b : ℕ) → b < w → a < 2 ^ w →
    bit_or (a / 2 ^ b) (complement w ((2 ^ w - 1) / 2 ^ b)) ≡ complement w (complement w a / 2 ^ b)
or-complement w a b h below =
    let m = 2 ^ (w - b) in
    let p = 2 ^ b in
    let width : w - b + b ≡ w = omega arith in
    let whole : m * p ≡ 2 ^ w = sym (pow-add 2 (w - b) b) ∙ ap (λ k. 2 ^ k) width in
    let q_below : a / p < m = shr_below a (w - b) b
    (let e : 2 ^ w ≡ 2 ^ (w - b + b) = ap (λ k. 2 ^ k) (sym width) in omega (arith, below, e)) in
    let within : b ≤ w = omega arith in
    let ones = ones_shr w b within in
    let above = one_less p m (pow_pos b) in
    let fill : complement w ((2 ^ w - 1) / p) ≡ (p - 1) * m = omega (arith, ones, above, whole) in
    let right : (2 ^ w - 1 - a) / p ≡ m - 1 - a / p =
    ap (λ n. (n - 1 - a) / p) (sym whole) ∙ div-complement m p a (pow_pos b) q_below in
    ap (λ n. bit_or (a / p) n) fill ∙ or_shifted_r (p - 1) (w - b) (a / p) q_below
    ∙ omega (arith, above, whole, right, q_below)

filled : (w a b : ℕ) (t : Bool) → nat_lt b w ≡ t → a < 2 ^ w →
    bit_or (cond t (a / 2 ^ b) 0) (complement w (cond t ((2 ^ w - 1) / 2 ^ b) 0))
    ≡ complement w (cond t (complement w a / 2 ^ b) 0)
filled w a b true e h = or-complement w a b (ltb-true b w e) h
filled w a b false e h = or_zero_l (complement w 0)

-- above the greatest word without a top bit, the logical shift with the freed bits set is the arithmetic one
pub ashr_of-filled : (w a b : ℕ) → 2 ≤ w → (2 ^ w - 1) / 2 < a → a < 2 ^ w →
    bit_or (lshr_of w a b) (complement w (lshr_of w (2 ^ w - 1) b)) ≡ ashr_of w a b
ashr_of-filled w a b least sign h =
    let width : w ≡ 1 + (w - 1) = omega arith in
    let double : 2 ^ w ≡ 2 * 2 ^ (w - 1) = ap (λ k. 2 ^ k) width ∙ pow-add 2 1 (w - 1) in
    let negative : nat_lt a (2 ^ (w - 1)) ≡ false = grind (arith, double, leb_tells (suc a) (2 ^ (w - 1))) in
    filled w a b (nat_lt b w) refl h
    ∙ ap (λ t. cond t (lshr_of w a b) (complement w (lshr_of w (complement w a) b))) (sym negative)
