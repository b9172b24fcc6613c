-- Words bit by bit.
use Rattle.std.proofs.Common.{◌≡◌, ◌≢◌, ℕ, zero, suc, ◌-◌, ◌/◌, ◌%◌, ◌^◌, ◌<◌, ◌≤◌, ◌↔◌, ◌⊎◌, inl, inr, min, refl, sym}
use Rattle.std.proofs.Common.{ap, ◌∙◌, arith, bit_and, bit_or, bit_xor, count_ones}
use Rattle.std.proofs.Math.Nat.{mod-eq_of_lt, pow-suc, pow-le-pow_right}
use Rattle.std.proofs.lemmas.Bool.{cases_lt}
use Rattle.std.proofs.lemmas.Nat.{pow_pos, and_mask, and_comm, and_or_self}
use Rattle.std.proofs.lemmas.Nat.Bits.{bit_at-lt, bit_at-zero, bit_at_and, bit_at_xor, bit_at_ones, bit_at_above}
use Rattle.std.proofs.lemmas.Nat.Bits.{same_from_bits}
use Rattle.std.specs.Int.{bit_at}
use Rattle.std.specs.Int.Bits.{and_step, xor_add_and, and_zero_l, or_comm}
use Rattle.std.specs.Int.Count.{ones_step}
use Rattle.am_bv.specs.Words.{complement}

-- each bit of 0 is 0
pub bits_of_zero : (n i : ℕ) → n ≡ 0 → bit_at n i ≡ 0
bits_of_zero n i e = ap (λ m. bit_at m i) e ∙ bit_at-zero i

-- a number whose bits are all 0 is 0
pub zero_from_bits : (n : ℕ) → ((i : ℕ) → bit_at n i ≡ 0) → n ≡ 0
zero_from_bits n h = same_from_bits n 0 (λ i. h i ∙ sym (bit_at-zero i))

-- a bit is 0 or 1
pub bit_cases : (n i : ℕ) → (bit_at n i ≡ 0) ⊎ (bit_at n i ≡ 1)
bit_cases n i = zero_or_one (bit_at n i) (bit_at-lt n i)
  where
    zero_or_one : (x : ℕ) → x < 2 → (x ≡ 0) ⊎ (x ≡ 1)
    zero_or_one zero h = inl refl
    zero_or_one (suc zero) h = inr refl
    zero_or_one (suc (suc x)) h = absurd (omega arith)

-- each test by a bit operation is a fact on single bits: two words share no bit
pub disjoint_bits : (a b : ℕ) → (bit_and a b ≡ 0) ↔ ((i : ℕ) → ¬ ((bit_at a i ≡ 1) × (bit_at b i ≡ 1)))
disjoint_bits a b = (
  λ e i both. omega (arith, both.0, both.1, bits_of_zero _ i e, bit_at_and a b i),
  λ h. zero_from_bits _ (λ i. elim (bit_cases a i) [
    | inl e ↦ omega (arith, bit_at_and a b i)
    | inr e ↦ elim (bit_cases b i) [ inl f ↦ omega (arith, bit_at_and a b i) | inr f ↦ absurd (h i (e, f)) ]
  ]),
)

-- a word is 0 on all bits of a mask
pub clear_bits : (c mask : ℕ) → (bit_and c mask ≡ 0) ↔ ((i : ℕ) → bit_at mask i ≡ 1 → bit_at c i ≡ 0)
clear_bits c mask = (
  λ e i h. omega (arith, bits_of_zero _ i e, bit_at_and c mask i),
  λ h. zero_from_bits _ (λ i. elim (bit_cases mask i) [
    | inl e ↦ omega (arith, bit_at_and c mask i)
    | inr e ↦ omega (arith, bit_at_and c mask i, h i e)
  ]),
)

-- a word is 1 on all bits of a mask
pub set_bits : (c mask : ℕ) → (bit_and c mask ≡ mask) ↔ ((i : ℕ) → bit_at mask i ≡ 1 → bit_at c i ≡ 1)
set_bits c mask = (
  λ e i h. omega (arith, ap (λ n. bit_at n i) e, bit_at_and c mask i, bit_at-lt c i),
  λ h. same_from_bits _ _ (λ i. elim (bit_cases mask i) [
    | inl e ↦ omega (arith, bit_at_and c mask i)
    | inr e ↦ omega (arith, bit_at_and c mask i, h i e)
  ]),
)

-- two words agree on all bits of a mask
pub same_bits : (c d mask : ℕ)
    → (bit_and (bit_xor c d) mask ≡ 0) ↔ ((i : ℕ) → bit_at mask i ≡ 1 → bit_at c i ≡ bit_at d i)
same_bits c d mask = (
  λ e i h. omega (
    arith,
    bits_of_zero _ i e,
    bit_at_and (bit_xor c d) mask i,
    bit_at_xor c d i,
    bit_at-lt c i,
    bit_at-lt d i,
  ),
  λ h. zero_from_bits _ (λ i. elim (bit_cases mask i) [
    | inl e ↦ omega (arith, bit_at_and (bit_xor c d) mask i)
    | inr e ↦ omega (arith, bit_at_and (bit_xor c d) mask i, bit_at_xor c d i, bit_at-lt c i, h i e)
  ]),
)

-- the complement flips each bit
complement-xor : (w d : ℕ) → d < 2 ^ w → complement w d ≡ bit_xor (2 ^ w - 1) d
complement-xor w d h =
    omega (arith, xor_add_and (2 ^ w - 1) d, and_comm (2 ^ w - 1) d, and_mask d w, mod-eq_of_lt h, pow_pos w)

-- a bit of the complement is 1 where the word's is 0, and 0 where it is 1
pub bit_at-complement : (w d i : ℕ) → d < 2 ^ w → i < w → bit_at (complement w d) i ≡ 1 - bit_at d i
bit_at-complement w d i h below =
    ap (λ n. bit_at n i) (complement-xor w d h)
    ∙ omega (arith, bit_at_xor (2 ^ w - 1) d i, bit_at_ones w i below, bit_at-lt d i)

-- the bits of a word without those of another
pub bit_at-without : (w c d i : ℕ) → c < 2 ^ w → d < 2 ^ w
    → bit_at (bit_and c (complement w d)) i ≡ min (bit_at c i) (1 - bit_at d i)
bit_at-without w c d i h k =
    elim (cases_lt i w) [
      | inl below ↦ bit_at_and c (complement w d) i ∙ ap (min (bit_at c i)) (bit_at-complement w d i k below)
      | inr above ↦ omega (arith, bit_at_and c (complement w d) i, bit_at_above c w i h above)
    ]

-- the width doesn't matter for what is left of a word
pub without-widths : (v w c d : ℕ) → c < 2 ^ v → d < 2 ^ v → c < 2 ^ w → d < 2 ^ w
    → bit_and c (complement v d) ≡ bit_and c (complement w d)
without-widths v w c d h k h' k' =
    same_from_bits _ _ (λ i. bit_at-without v c d i h k ∙ sym (bit_at-without w c d i h' k'))

-- a number is below 2 to its own power
pub below_power : (n : ℕ) → n < 2 ^ n
below_power zero = omega arith
below_power (suc n) = omega (arith, below_power n, pow-suc 2 n)

-- a mask keeps a word as it is, or lowers its number of ones
pub kept_or_fewer : (k a b : ℕ) → a < 2 ^ k → (bit_and a b ≡ a) ⊎ (count_ones (bit_and a b) < count_ones a)
kept_or_fewer zero a b h = let e : a ≡ 0 = omega arith in inl (ap (λ n. bit_and n b) e ∙ and_zero_l b ∙ sym e)
kept_or_fewer (suc k) a b h =
    let step = and_step a b in
    let half : bit_and a b / 2 ≡ bit_and (a / 2) (b / 2) = omega (arith, step) in
    let first = ones_step (bit_and a b) in
    let second = ones_step a in
    let rest : count_ones (bit_and a b / 2) ≡ count_ones (bit_and (a / 2) (b / 2)) = ap count_ones half in
    elim (kept_or_fewer k (a / 2) (b / 2) (omega (arith, h, pow-suc 2 k))) [
      | inl same ↦ elim (cases_lt (b % 2) (a % 2)) [
        | inl less ↦ inr (omega (arith, ap count_ones same))
        | inr kept ↦ inl (omega arith)
      ]
      | inr fewer ↦ inr (omega arith)
    ]

-- a mask that changes a word lowers its number of ones
pub fewer_ones : (a b : ℕ) → bit_and a b ≢ a → count_ones (bit_and a b) < count_ones a
fewer_ones a b apart = elim (kept_or_fewer a a b (below_power a)) [ inl same ↦ absurd (apart same) | inr fewer ↦ fewer ]

-- a bit that is added raises it
pub more_ones : (a b : ℕ) → bit_or a b ≢ a → count_ones a < count_ones (bit_or a b)
more_ones a b apart =
    let e : bit_and (bit_or a b) a ≡ a = ap (λ n. bit_and n a) (or_comm a b) ∙ and_or_self a b in
    omega (arith, fewer_ones (bit_or a b) a (λ f. apart (sym f ∙ e)), ap count_ones e)

-- there are at least four words of a width
pub four_words : (w : ℕ) → 2 ≤ w → 4 ≤ 2 ^ w
four_words w h = let two : 0 < 2 = omega arith in pow-le-pow_right two h
