-- The rank of a pair fits its type.
use Rattle.std.proofs.Common.{◌≡◌, ℕ, ◌+◌, ◌*◌, ◌^◌, ◌<◌, ◌≤◌, subst, arith}
use Rattle.std.proofs.Math.Nat.{pow-le-pow_right, mul-le-mul_right}

-- two ranks of at most 2 ^ w for each field, with two fields and at most two
pub ranks-fit : (w m n r s : ℕ) → w ≤ 8 → m ≡ 2 → n ≤ 2 → r ≤ m * 2 ^ w → s ≤ n * 2 ^ w → r + s < 2 ^ 32
ranks-fit w m n r s narrow two few hr hs =
    let base : 0 < 2 = omega arith in
    let most : 2 ^ w ≤ 2 ^ 8 = pow-le-pow_right base narrow in
    let first : r ≤ 2 * 2 ^ w = subst (λ k. r ≤ k * 2 ^ w) two hr in
    let second : n * 2 ^ w ≤ 2 * 2 ^ w = mul-le-mul_right (2 ^ w) few in
    omega (arith, most, first, second, hs)
