-- What is left of a byte's arithmetic in the low bits of a word.
use Rattle.std.proofs.Common.{◌≡◌, ℕ, zero, suc, ◌+◌, ◌-◌, ◌*◌, ◌%◌, ◌^◌, ◌<◌, ◌≤◌, subst, sym, ap, ◌∙◌, inl, inr}
use Rattle.std.proofs.Common.{arith}
use Rattle.std.proofs.Math.Nat.{mod-mod_of_dvd, dvd-mul_left, mul-add-mod_self_right, suc-mul, pow-le-pow_right}
use Rattle.std.proofs.lemmas.Nat.{pow-add, pow_pos}
use Rattle.std.proofs.Math.Pow.{pow_mono}
use Rattle.std.proofs.lemmas.Bool.{cases_lt}
use Rattle.am_bv.specs.Words.{IsWidth}

-- 2 ^ 8 is a multiple of 2 ^ w
multiple : (w : ℕ) → w ≤ 8 → 2 ^ (8 - w) * 2 ^ w ≡ 2 ^ 8
multiple w h = let e : 8 - w + w ≡ 8 = omega arith in sym (pow-add 2 (8 - w) w) ∙ ap (λ k. 2 ^ k) e

word_le_byte : (w : ℕ) → w ≤ 8 → 2 ^ w ≤ 2 ^ 8
word_le_byte w h = let two : 0 < 2 = omega arith in pow-le-pow_right two h

-- a sum, a product or a shift in a byte has the low bits that it has without the byte's bound
pub truncated : (w n : ℕ) → w ≤ 8 → n % 2 ^ 8 % 2 ^ w ≡ n % 2 ^ w
truncated w n h =
    subst (λ m. n % m % 2 ^ w ≡ n % 2 ^ w) (multiple w h)
    (mod-mod_of_dvd (2 ^ w) n (dvd-mul_left (2 ^ w) (2 ^ (8 - w))))

-- a multiple of p is p more than the multiple by one less
pub one_less : (k p : ℕ) → 0 < k → (k - 1) * p + p ≡ k * p
one_less zero p h = omega (arith, h)
one_less (suc k) p h = let e : suc k - 1 ≡ k = omega arith in rw e (sym (suc-mul k p))

-- what a difference borrows from above the word leaves its low bits as they are
borrowed : (w n : ℕ) → w ≤ 8 → (2 ^ 8 - 2 ^ w + n) % 2 ^ w ≡ n % 2 ^ w
borrowed w n h =
    let k = 2 ^ (8 - w) - 1 in
    let split : k * 2 ^ w + 2 ^ w ≡ 2 ^ 8 = one_less (2 ^ (8 - w)) (2 ^ w) (pow_pos (8 - w)) ∙ multiple w h in
    let e : 2 ^ 8 - 2 ^ w + n ≡ k * 2 ^ w + n = omega (arith, split) in
    ap (λ m. m % 2 ^ w) e ∙ mul-add-mod_self_right k (2 ^ w) n

-- a difference in a byte has the low bits of the difference in the word
pub truncated-difference : (w a b : ℕ) → w ≤ 8 → b < 2 ^ w
    → (a + (2 ^ 8 - b)) % 2 ^ 8 % 2 ^ w ≡ (a + (2 ^ w - b)) % 2 ^ w
truncated-difference w a b h below =
    let most = word_le_byte w h in
    let e : a + (2 ^ 8 - b) ≡ 2 ^ 8 - 2 ^ w + (a + (2 ^ w - b)) = omega (arith, most, below) in
    truncated w (a + (2 ^ 8 - b)) h ∙ ap (λ m. m % 2 ^ w) e ∙ borrowed w (a + (2 ^ w - b)) h

-- 1 is a word of every width
pub one_is_word : (w : ℕ) → 2 ≤ w → 1 < 2 ^ w
one_is_word w h =
    let two : 0 < 2 = omega arith in
    let least : 2 ^ 2 ≤ 2 ^ w = pow-le-pow_right two h in
    omega (arith, least)

-- the greatest word is a byte from 3 on at the widths alone
pub IsWidth-mask : (w m : ℕ) → m ≡ 2 ^ w - 1 → 3 ≤ m → m < 2 ^ 8 → IsWidth w
IsWidth-mask w m is least byte = (
  elim (cases_lt w 2)
      [ inl narrow ↦ let small : w ≤ 1 = omega arith in absurd (omega (arith, pow_mono small)) | inr wide ↦ wide ],
  elim (cases_lt 8 w)
      [ inl wide ↦ let large : 9 ≤ w = omega arith in absurd (omega (arith, pow_mono large)) | inr few ↦ few ],
)
