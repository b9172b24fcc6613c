-- Congruences modulo powers of two. A tuple has two words m and r: its members are the words congruent to r
-- modulo m + 1.
use Rattle.std.specs.Prelude.{◌≡◌, ℕ, zero, suc, ◌+◌, ◌-◌, ◌^◌, ◌≤◌, if◌then◌else◌, List, [], ◌∷◌, slice_index, ◌==◌}
use Rattle.std.specs.Prelude.{bit_and, bit_xor, count_ones}
use Rattle.std.specs.declared.option.Option.{Option}
use Rattle.std.specs.declared.option.Option.TheVariants.{Some}
use Rattle.std.specs.Int.{bit_at}
use Rattle.am_bv.specs.Words.{complement}
use Rattle.am_bv.specs.declared.op.Op.TheVariants.{Add, And, Eq, Not, Xor}
use Rattle.am_bv.specs.declared.term.Term.{Term}
use Rattle.am_bv.specs.declared.term.Term.TheVariants.{Const, Field}
use Rattle.am_bv.specs.Terms.{unary, binary}
use Rattle.am_domain.specs.Abstraction.{Abstraction}
use Rattle.am_domain.specs.Meaning.{Meaning}

-- the modulus less one: the bits that are fixed
abbrev pub mask : List ℕ → ℕ
mask a = slice_index a 0

-- what each member leaves modulo m + 1
abbrev pub residue : List ℕ → ℕ
residue a = slice_index a 1

-- m + 1 is a power of two up to 2 ^ w
abbrev pub IsMask : ℕ → ℕ → Type 0
IsMask w m = (j : ℕ) × (j ≤ w) × (m + 1 ≡ 2 ^ j)

-- the tuple is a mask and a residue modulo m + 1
pub record IsCongruence (w : ℕ) (a : List ℕ) : Type 0 where
  pub masked : IsMask w (mask a)
  pub within : residue a ≤ mask a

-- the word and the residue agree on each bit of the mask
abbrev pub IsCongruent : List ℕ → ℕ → Type 0
IsCongruent a c = (i : ℕ) → bit_at (mask a) i ≡ 1 → bit_at c i ≡ bit_at (residue a) i

-- the domain of congruences
abbrev pub congruences : Meaning
congruences = record { fields = 2; Valid = IsCongruence; Member = λ w. IsCongruent }

-- the greatest number 2 ^ j - 1, with j at most k, whose bits are all in x
unfoldable pub low_up_to : ℕ → ℕ → ℕ
low_up_to zero x = 0
low_up_to (suc k) x = let ones = 2 ^ suc k - 1 in if bit_and x ones == ones then ones else low_up_to k x

-- the greatest number 2 ^ j - 1 whose bits are all in x; none has a j above x
unfoldable pub low : ℕ → ℕ
low x = low_up_to x x

-- any word
abbrev pub congruence_top : List ℕ
congruence_top = 0 ∷ 0 ∷ []

-- the word alone
abbrev pub congruence_of_word : ℕ → ℕ → List ℕ
congruence_of_word w c = (2 ^ w - 1) ∷ c ∷ []

-- the bits of both masks on which the residues agree
abbrev pub agreed : ℕ → List ℕ → List ℕ → ℕ
agreed w a b = bit_and (bit_and (mask a) (mask b)) (complement w (bit_xor (residue a) (residue b)))

-- the residue modulo a mask
abbrev pub modulo : ℕ → ℕ → List ℕ
modulo m r = m ∷ bit_and r m ∷ []

-- the residue modulo the greatest mask on which both agree
abbrev pub congruence_join : ℕ → List ℕ → List ℕ → List ℕ
congruence_join w a b = modulo (low (agreed w a b)) (residue a)

-- the residue modulo the greatest mask within the first word
abbrev pub congruence_tidy : List ℕ → Option (List ℕ)
congruence_tidy raw = Some (modulo (low (mask raw)) (residue raw))

-- how many bits of the residue are known
abbrev pub congruence_rank : List ℕ → ℕ
congruence_rank a = count_ones (mask a)

-- the mask shares no bit with the next number, and the residue has no bit outside the mask
abbrev pub congruence_valid_term : Term
congruence_valid_term =
    let masked = binary Eq (binary And (Field 0) (binary Add (Field 0) (Const 1))) (Const 0) in
    let within = binary Eq (binary And (Field 1) (unary Not (Field 0))) (Const 0) in
    binary And masked within

-- the word and the residue differ on no bit of the mask
abbrev pub congruence_member_term : Term
congruence_member_term = binary Eq (binary And (binary Xor (Field 2) (Field 1)) (Field 0)) (Const 0)

-- congruences as a domain
abbrev pub all_congruences : Abstraction
all_congruences = record {
  meaning = congruences;
  top = λ w. congruence_top;
  of_word = congruence_of_word;
  some_member = λ w. residue;
  join = congruence_join;
  tidy = λ w. congruence_tidy;
  rank = λ w. congruence_rank;
  valid_term = λ w. congruence_valid_term;
  member_term = λ w. congruence_member_term;
}
