-- What the bits of a congruence say of whole numbers. The functions of `theorems` prove it.
use Rattle.std.specs.Prelude.{◌≡◌, ℕ, ◌+◌, ◌-◌, ◌%◌, ◌^◌, ◌≤◌, ◌↔◌, List, bit_and}
use Rattle.am_bits.specs.Congruences.{mask, residue, IsCongruence, IsCongruent, low}

-- the members of a congruence are the words that leave its residue modulo m + 1
abbrev pub MembersLeaveResidue : Type 0
MembersLeaveResidue = (w : ℕ) (a : List ℕ) (c : ℕ) → IsCongruence w a → IsCongruent a c ↔ (c % (mask a + 1) ≡ residue a)

-- the low ones of a number are one less than a power of two
abbrev pub LowIsMask : Type 0
LowIsMask = (x : ℕ) → (j : ℕ) × (low x + 1 ≡ 2 ^ j)

-- their bits are all in the number
abbrev pub LowIsWithin : Type 0
LowIsWithin = (x : ℕ) → bit_and x (low x) ≡ low x

-- no number that is one less than a power of two, and whose bits are all in the number, is greater
abbrev pub LowIsGreatest : Type 0
LowIsGreatest = (x j : ℕ) → bit_and x (2 ^ j - 1) ≡ 2 ^ j - 1 → 2 ^ j - 1 ≤ low x
