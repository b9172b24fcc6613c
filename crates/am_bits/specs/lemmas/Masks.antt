-- Numbers 2 ^ j - 1, whose bits are the lowest j, and the greatest of them within a word.
use Rattle.std.proofs.Common.{◌≡◌, ℕ, zero, suc, ◌+◌, ◌-◌, ◌*◌, ◌/◌, ◌%◌, ◌^◌, ◌<◌, ◌≤◌, ◌↔◌, Bool, true, false, cond}
use Rattle.std.proofs.Common.{inl, inr, refl, sym, ap, ◌∙◌, arith, ◌==◌, bit_and}
use Rattle.std.proofs.Math.Nat.{mod-eq_of_lt, mod_self, pow-suc, zero-mul}
use Rattle.std.proofs.Math.Pow.{pow-lt, pow_mono}
use Rattle.std.proofs.lemmas.Bool.{cases_lt, eqb-true, eqb-false}
use Rattle.std.proofs.lemmas.Nat.{pow_pos, and_mask, and_le_l, and_le_r}
use Rattle.std.proofs.lemmas.Nat.Bits.{bit_at-lt, bit_at_and, bit_at_above, bit_at_ones, bit_at_ones_above}
use Rattle.std.proofs.lemmas.Nat.Bits.{bit_at-trailing_ones, and_pow, same_from_bits}
use Rattle.std.specs.Int.{bit_at, trailing_ones, w8}
use Rattle.std.specs.Int.Count.{trailing_of_zero}
use Rattle.std.specs.Int.Bits.{and_step, and_self, and_zero_r}
use Rattle.am_bv.specs.Words.{complement}
use Rattle.am_bits.specs.lemmas.Bits.{bit_cases, set_bits, zero_from_bits, bits_of_zero, bit_at-without, below_power}
use Rattle.am_bits.specs.Congruences.{IsMask, low, low_up_to}

-- powers of two are ordered as their exponents
pub exponent_le : (i j : ℕ) → 2 ^ i ≤ 2 ^ j → i ≤ j
exponent_le i j h = elim (cases_lt j i) [ inl less ↦ absurd (omega (arith, h, pow-lt less)) | inr most ↦ most ]

-- a number that shares no bit with the next one is a mask
by_next : (k m : ℕ) → m < 2 ^ k → bit_and m (m + 1) ≡ 0 → IsMask k m
by_next zero m h e = (0, omega arith, omega arith)
by_next (suc k) m h e =
    let step = and_step m (m + 1) in
    elim (cases_lt (m % 2) 1) [
      | inl even ↦
          let half : (m + 1) / 2 ≡ m / 2 = omega arith in
          let same : bit_and (m / 2) ((m + 1) / 2) ≡ m / 2 = ap (bit_and (m / 2)) half ∙ and_self (m / 2) in
          (0, omega arith, omega (arith, step, same))
      | inr odd ↦
          let half : (m + 1) / 2 ≡ m / 2 + 1 = omega arith in
          let same : bit_and (m / 2) ((m + 1) / 2) ≡ bit_and (m / 2) (m / 2 + 1) = ap (bit_and (m / 2)) half in
          let rest = by_next k (m / 2) (omega (arith, pow-suc 2 k)) (omega (arith, step, same)) in
          (suc rest.0, omega (arith, rest.1), omega (arith, rest.2, pow-suc 2 rest.0, half))
    ]

-- the test of a mask by numbers of k bits
pub mask_by_next : (k w m : ℕ) → m < 2 ^ k → m < 2 ^ w → (bit_and m ((m + 1) % 2 ^ k) ≡ 0) ↔ IsMask w m
mask_by_next k w m byte word = (there, back)
  where
    narrow : IsMask k m → IsMask w m
    narrow mask = (mask.0, exponent_le mask.0 w (omega (arith, mask.2, word)), mask.2)

    there : bit_and m ((m + 1) % 2 ^ k) ≡ 0 → IsMask w m
    there e =
        elim (cases_lt (m + 1) (2 ^ k)) [
          | inl below ↦ narrow (by_next k m byte (ap (bit_and m) (sym (mod-eq_of_lt below)) ∙ e))
          | inr wraps ↦ narrow (k, omega arith, omega arith)
        ]

    back : IsMask w m → bit_and m ((m + 1) % 2 ^ k) ≡ 0
    back mask =
        elim (cases_lt (m + 1) (2 ^ k)) [
          | inl below ↦
              let above : bit_at m mask.0 ≡ 0 = bit_at_above m mask.0 mask.0 (omega (arith, mask.2)) (omega arith) in
              ap (bit_and m) (mod-eq_of_lt below ∙ mask.2) ∙ and_pow m mask.0 ∙ ap (λ b. b * 2 ^ mask.0) above
              ∙ zero-mul (2 ^ mask.0)
          | inr wraps ↦
              let whole : m + 1 ≡ 2 ^ k = omega arith in
              ap (bit_and m) (ap (λ n. n % 2 ^ k) whole ∙ mod_self (2 ^ k)) ∙ and_zero_r m
        ]

-- a mask keeps the numbers up to it
pub kept_by_mask : (w r m : ℕ) → IsMask w m → r ≤ m → bit_and r m ≡ r
kept_by_mask w r m mask h =
    let e : m ≡ 2 ^ mask.0 - 1 = omega (arith, mask.2) in
    ap (bit_and r) e ∙ and_mask r mask.0 ∙ mod-eq_of_lt (omega (arith, mask.2, h))

-- a word has no bit outside a mask exactly where it is at most the mask
pub within_mask : (w r m : ℕ) → IsMask w m → r < 2 ^ w → m < 2 ^ w → (bit_and r (complement w m) ≡ 0) ↔ (r ≤ m)
within_mask w r m mask h k = (
  λ e.
      let kept : bit_and r m ≡ r = same_from_bits _ _ (λ i. elim (bit_cases m i) [
        | inl x ↦ omega (arith, bit_at_and r m i, bits_of_zero _ i e, bit_at-without w r m i h k, bit_at-lt r i)
        | inr x ↦ omega (arith, bit_at_and r m i, bit_at-lt r i)
      ]) in
      omega (arith, kept, and_le_r r m),
  λ most.
      let kept = kept_by_mask w r m mask most in
      zero_from_bits _ (λ i. elim (bit_cases m i) [
        | inl x ↦ omega (arith, bit_at_and r m i, ap (λ n. bit_at n i) kept, bit_at-without w r m i h k)
        | inr x ↦ omega (arith, bit_at-without w r m i h k)
      ]),
)

-- The low ones of x are a mask, their bits are all in x, and no mask within x is greater.
module _ (x : ℕ) where
  abbrev IsWithin : ℕ → Type 0
  IsWithin m = bit_and x m ≡ m

  pub low_up_to-mask : (k : ℕ) → (j : ℕ) × (low_up_to k x + 1 ≡ 2 ^ j)
  unfolding low_up_to
  low_up_to-mask zero = (0, omega arith)
  low_up_to-mask (suc k) = at (bit_and x (2 ^ suc k - 1) == 2 ^ suc k - 1) (low_up_to-mask k)
    where
      at : (t : Bool) → (j : ℕ) × (low_up_to k x + 1 ≡ 2 ^ j)
          → (j : ℕ) × (cond t (2 ^ suc k - 1) (low_up_to k x) + 1 ≡ 2 ^ j)
      at true rest = (suc k, omega (arith, pow_pos (suc k)))
      at false rest = rest

  pub low_up_to-within : (k : ℕ) → IsWithin (low_up_to k x)
  unfolding low_up_to
  low_up_to-within zero = and_zero_r x
  low_up_to-within (suc k) = at (bit_and x (2 ^ suc k - 1) == 2 ^ suc k - 1) refl (low_up_to-within k)
    where
      at : (t : Bool) → (bit_and x (2 ^ suc k - 1) == 2 ^ suc k - 1) ≡ t → IsWithin (low_up_to k x)
          → IsWithin (cond t (2 ^ suc k - 1) (low_up_to k x))
      at true e rest = eqb-true _ _ e
      at false e rest = rest

  pub low_up_to-greatest : (k j : ℕ) → j ≤ k → IsWithin (2 ^ j - 1) → 2 ^ j - 1 ≤ low_up_to k x
  unfolding low_up_to
  low_up_to-greatest zero j h within = let e : j ≡ 0 = omega arith in omega (arith, ap (λ i. 2 ^ i) e)
  low_up_to-greatest (suc k) j h within =
      at (bit_and x (2 ^ suc k - 1) == 2 ^ suc k - 1) refl (λ less. low_up_to-greatest k j less within)
    where
      at : (t : Bool) → (bit_and x (2 ^ suc k - 1) == 2 ^ suc k - 1) ≡ t → (j ≤ k → 2 ^ j - 1 ≤ low_up_to k x)
          → 2 ^ j - 1 ≤ cond t (2 ^ suc k - 1) (low_up_to k x)
      at true e rest = omega (arith, pow_mono h)
      at false e rest =
          elim (cases_lt j (suc k)) [
            | inl less ↦ rest (omega arith)
            | inr most ↦
                let same : j ≡ suc k = omega arith in
                absurd
                (eqb-false _ _ e (ap (λ i. bit_and x (2 ^ i - 1)) (sym same) ∙ within ∙ ap (λ i. 2 ^ i - 1) same))
          ]

  -- the bits of the low ones are all in the number
  pub low-within : IsWithin (low x)
  unfolding low
  low-within = low_up_to-within x

  -- no mask within a number is greater than its low ones
  pub low-greatest : (j : ℕ) → IsWithin (2 ^ j - 1) → 2 ^ j - 1 ≤ low x
  unfolding low
  low-greatest j within = low_up_to-greatest x j (omega (arith, below_power j, and_le_l x (2 ^ j - 1), within)) within

  -- the low ones of a word are a mask of its width
  pub low-mask : (w : ℕ) → x < 2 ^ w → IsMask w (low x)
  unfolding low
  low-mask w h =
      let mask = low_up_to-mask x in
      (mask.0, exponent_le mask.0 w (omega (arith, mask.1, low_up_to-within x, and_le_l x (low_up_to x x))), mask.1)

  -- a mask within x and not the next bit is the greatest
  pub low-is : (j : ℕ) → IsWithin (2 ^ j - 1) → bit_at x j ≡ 0 → low x ≡ 2 ^ j - 1
  low-is j within next =
      let mask = low-mask x (below_power x) in
      let run : low x ≡ 2 ^ mask.0 - 1 = omega (arith, mask.2) in
      elim (cases_lt j mask.0) [
        | inl less ↦
            let bit : bit_at (low x) j ≡ 1 = ap (λ m. bit_at m j) run ∙ bit_at_ones mask.0 j less in
            absurd (omega (arith, next, (set_bits x (low x)).0 low-within j bit))
        | inr most ↦ omega (arith, run, low-greatest j within, pow_mono most)
      ]

-- the low ones of a byte are its trailing ones
pub low-trailing_ones : (x : ℕ) → x < 2 ^ 8 → low x ≡ 2 ^ trailing_ones w8 x - 1
low-trailing_ones x h =
    elim (cases_lt (x + 1) (2 ^ 8)) [
      | inl below ↦
          let j = trailing_ones w8 x in
          let zero_after = bit_at-trailing_ones w8 x below in
          let all : bit_and x (2 ^ j - 1) ≡ 2 ^ j - 1 = (set_bits x (2 ^ j - 1)).1 (λ i one. elim (cases_lt i j) [
            | inl less ↦ zero_after.2 i less
            | inr more ↦ absurd (omega (arith, one, bit_at_ones_above j i more))
          ]) in
          low-is x j all zero_after.1
      | inr most ↦
          let e : x ≡ 255 = omega arith in
          ap low e ∙ low-is 255 8 refl refl ∙ ap (λ j. 2 ^ j - 1) (sym (trailing_of_zero 8))
          ∙ ap (λ n. 2 ^ trailing_ones w8 n - 1) (sym e)
    ]
