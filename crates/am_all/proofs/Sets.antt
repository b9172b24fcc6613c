-- Sets of words, bit by bit.
use Rattle.std.proofs.Common.{◌≡◌, ◌≢◌, ℕ, zero, suc, ◌+◌, ◌*◌, ◌/◌, ◌%◌, ◌^◌, ◌<◌, ◌⊎◌, ◌↔◌, inl, inr, List, length}
use Rattle.std.proofs.Common.{set, get_or, bit_and, bit_or, min, sym, ap, ◌∙◌, subst, arith, get_or-set_same}
use Rattle.std.proofs.Common.{get_or-set_other}
use Rattle.std.specs.Int.{bit_at, w64}
use Rattle.std.proofs.lemmas.Bool.{cases_eq, cases_lt}
use Rattle.std.proofs.lemmas.List.{get_or_past}
use Rattle.std.proofs.lemmas.Nat.{and_le_l}
use Rattle.std.proofs.lemmas.Nat.Bits.{bit_at-lt, bit_at-zero, bit_at_and, bit_at_set_same, bit_at_set_other}
use Rattle.std.proofs.lemmas.Nat.Bits.{same_from_bits_below}

bit_cases : (n i : ℕ) → (bit_at n i ≡ 0) ⊎ (bit_at n i ≡ 1)
bit_cases n i = let lt = bit_at-lt n i in elim (cases_eq (bit_at n i) 0) [ inl e ↦ inl e | inr ne ↦ inr (omega arith) ]

same_place : (c d : ℕ) → d / 64 ≡ c / 64 → d % 64 ≡ c % 64 → d ≡ c
same_place c d p q = omega arith

-- a number with one bit more
with_bit : (n i j : ℕ) → i < 64 → (bit_at (bit_or n (1 * 2 ^ i % 2 ^ 64)) j ≡ 1) ↔ ((j ≡ i) ⊎ (bit_at n j ≡ 1))
with_bit n i j l = elim (cases_eq j i) [
  | inl e ↦ (
    λ h. inl e,
    λ h. subst (λ (k : ℕ). bit_at (bit_or n (1 * 2 ^ i % 2 ^ 64)) k ≡ 1) (sym e)
        (bit_at_set_same w64 n i l),
  )
  | inr ne ↦
      let other : bit_at (bit_or n (1 * 2 ^ i % 2 ^ 64)) j ≡ bit_at n j = bit_at_set_other w64 n i l j ne in
      (λ h. inr (sym other ∙ h), λ h. elim h [ inl e ↦ absurd (ne e) | inr b ↦ other ∙ b ])
]

-- a word more
pub inserted : (parts : List ℕ) (c d : ℕ) → length parts ≡ 4 → c < 256 →
    (bit_at (get_or (set parts (c / 64) (bit_or (get_or parts (c / 64) 0) (1 * 2 ^ (c % 64) % 2 ^ 64))) (d / 64) 0)
    (d % 64) ≡ 1)
    ↔ ((d ≡ c) ⊎ (bit_at (get_or parts (d / 64) 0) (d % 64) ≡ 1))
inserted parts c d len below = elim (cases_eq (d / 64) (c / 64)) [
  | inl e ↦
      let old = get_or parts (c / 64) 0 in
      let added : ℕ = bit_or old (1 * 2 ^ (c % 64) % 2 ^ 64) in
      let here : get_or (set parts (c / 64) added) (d / 64) 0 ≡ added =
      ap (λ (k : ℕ). get_or (set parts (c / 64) added) k 0) e ∙ get_or-set_same parts (c / 64) added 0 (omega arith) in
      let same : get_or parts (d / 64) 0 ≡ old = ap (λ (k : ℕ). get_or parts k 0) e in
      let bits = with_bit old (c % 64) (d % 64) (omega arith) in (
        λ h. elim (bits.0 (ap (λ (n : ℕ). bit_at n (d % 64)) (sym here) ∙ h)) [
          | inl f ↦ inl (same_place c d e f)
          | inr b ↦ inr (ap (λ (n : ℕ). bit_at n (d % 64)) same ∙ b)
        ],
        λ h. ap (λ (n : ℕ). bit_at n (d % 64)) here ∙ bits.1 (elim h [
          | inl f ↦ inl (ap (λ (k : ℕ). k % 64) f)
          | inr b ↦ inr (ap (λ (n : ℕ). bit_at n (d % 64)) (sym same) ∙ b)
        ]),
      )
  | inr ne ↦
      let added : ℕ = bit_or (get_or parts (c / 64) 0) (1 * 2 ^ (c % 64) % 2 ^ 64) in
      let other : get_or (set parts (c / 64) added) (d / 64) 0 ≡ get_or parts (d / 64) 0 =
      get_or-set_other parts (c / 64) (d / 64) added 0 ne in (
        λ h. inr (ap (λ (n : ℕ). bit_at n (d % 64)) (sym other) ∙ h),
        λ h. ap (λ (n : ℕ). bit_at n (d % 64)) other
            ∙ elim h [ inl f ↦ absurd (ne (ap (λ (k : ℕ). k / 64) f)) | inr b ↦ b ],
      )
]

-- each bit of a number that isn't changed by a mask is one of the mask's
pub masked : (a b i : ℕ) → bit_and a b ≡ a → bit_at a i ≡ 1 → bit_at b i ≡ 1
masked a b i e one =
    let least = bit_at_and a b i in
    let kept : bit_at (bit_and a b) i ≡ 1 = ap (λ (n : ℕ). bit_at n i) e ∙ one in
    let lt = bit_at-lt b i in
    omega (arith, least, kept, lt)

-- a bit of a number that isn't one of a mask's
pub record Outside (a b : ℕ) : Type 0 where
  pub bit : ℕ
  pub below : bit < 64
  pub here : bit_at a bit ≡ 1
  pub missing : bit_at b bit ≡ 0

kept_bits : (a b : ℕ) (k : ℕ) →
    ((i : ℕ) → i < k → bit_at (bit_and a b) i ≡ bit_at a i) ⊎ ((i : ℕ) × (i < k) × (bit_at a i ≡ 1) × (bit_at b i ≡ 0))
kept_bits a b zero = inl (λ i l. absurd (omega (arith, l)))
kept_bits a b (suc k) = elim (kept_bits a b k) [
  | inr found ↦ inr (found.0, omega (arith, found.1), found.2, found.3)
  | inl kept ↦ last kept (bit_cases a k) (bit_cases b k)
]
  where
    least : bit_at (bit_and a b) k ≡ min (bit_at a k) (bit_at b k)
    least = bit_at_and a b k

    more : ((i : ℕ) → i < k → bit_at (bit_and a b) i ≡ bit_at a i) → bit_at (bit_and a b) k ≡ bit_at a k → (i : ℕ) →
        i < suc k → bit_at (bit_and a b) i ≡ bit_at a i
    more kept here i l = elim (cases_eq i k)
        [ inl e ↦ subst (λ (j : ℕ). bit_at (bit_and a b) j ≡ bit_at a j) (sym e) here | inr ne ↦ kept i (omega arith) ]

    last : ((i : ℕ) → i < k → bit_at (bit_and a b) i ≡ bit_at a i) → (bit_at a k ≡ 0) ⊎ (bit_at a k ≡ 1) →
        (bit_at b k ≡ 0) ⊎ (bit_at b k ≡ 1) →
        ((i : ℕ) → i < suc k → bit_at (bit_and a b) i ≡ bit_at a i) ⊎
        ((i : ℕ) × (i < suc k) × (bit_at a i ≡ 1) × (bit_at b i ≡ 0))
    last kept (inl z) f = inl (more kept (let l = least in omega arith))
    last kept (inr o) (inl z) = inr (k, omega arith, o, z)
    last kept (inr o) (inr p) = inl (more kept (let l = least in omega arith))

-- a mask that changes a number lacks one of its bits
pub unmasked : (a b : ℕ) → a < 2 ^ 64 → bit_and a b < 2 ^ 64 → bit_and a b ≢ a → Outside a b
unmasked a b la lb ne = elim (kept_bits a b 64) [
  | inl kept ↦ absurd (ne (same_from_bits_below 64 (bit_and a b) a lb la kept))
  | inr found ↦ record { bit = found.0; below = found.1; here = found.2; missing = found.3 }
]

-- each word of a set is below 256
pub has_below : (parts : List ℕ) (c : ℕ) → length parts ≡ 4 → bit_at (get_or parts (c / 64) 0) (c % 64) ≡ 1 → c / 64 < 4
has_below parts c len one = elim (cases_lt (c / 64) 4) [
  | inl l ↦ l
  | inr past ↦
      let none : bit_at (get_or parts (c / 64) 0) (c % 64) ≡ 0 =
      ap (λ (n : ℕ). bit_at n (c % 64)) (get_or_past parts (c / 64) 0 (omega arith)) ∙ bit_at-zero (c % 64) in
      absurd (omega (arith, none, one))
]

-- a word of the one set that the other lacks, where a part of the one lacks one of its bits
pub missing_word : (parts others : List ℕ) (place : ℕ) → get_or parts place 0 < 2 ^ 64 →
    bit_and (get_or parts place 0) (get_or others place 0) ≢ get_or parts place 0 →
    (c : ℕ) × (bit_at (get_or parts (c / 64) 0) (c % 64) ≡ 1) × (bit_at (get_or others (c / 64) 0) (c % 64) ≢ 1)
missing_word parts others place lt ne =
    let least = and_le_l (get_or parts place 0) (get_or others place 0) in
    let out = unmasked (get_or parts place 0) (get_or others place 0) lt (omega arith) ne in
    let bit : ℕ = out.bit in
    let below : bit < 64 = out.below in
    let p : (place * 64 + bit) / 64 ≡ place = omega arith in
    let b : (place * 64 + bit) % 64 ≡ bit = omega arith in (
      place * 64 + bit,
      ap (λ (n : ℕ). bit_at (get_or parts n 0) ((place * 64 + bit) % 64)) p ∙ ap
          (λ (n : ℕ). bit_at (get_or parts place 0) n) b ∙ out.here,
      λ has. let zero_there : bit_at (get_or others ((place * 64 + bit) / 64) 0) ((place * 64 + bit) % 64) ≡ 0 =
          ap (λ (n : ℕ). bit_at (get_or others n 0) ((place * 64 + bit) % 64)) p ∙ ap
          (λ (n : ℕ). bit_at (get_or others place 0) n) b ∙ out.missing in
          omega (arith, has, zero_there),
    )
