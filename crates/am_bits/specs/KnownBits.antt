-- Known bits. A tuple has two words: the bits of the first are known to be 0 and those of the second to be 1.
use Rattle.std.specs.Prelude.{◌≡◌, ℕ, ◌+◌, if◌then◌else◌, List, [], ◌∷◌, slice_index, ◌==◌, bit_and, count_ones}
use Rattle.std.specs.declared.option.Option.{Option}
use Rattle.std.specs.declared.option.Option.TheVariants.{Some, None}
use Rattle.std.specs.Int.{bit_at}
use Rattle.am_bv.specs.Words.{complement}
use Rattle.am_bv.specs.declared.op.Op.TheVariants.{And, Eq}
use Rattle.am_bv.specs.declared.term.Term.{Term}
use Rattle.am_bv.specs.declared.term.Term.TheVariants.{Const, Field}
use Rattle.am_bv.specs.Terms.{binary}
use Rattle.am_domain.specs.Abstraction.{Abstraction}
use Rattle.am_domain.specs.Meaning.{Meaning}

-- the bits that are known to be 0
abbrev pub known_zeros : List ℕ → ℕ
known_zeros a = slice_index a 0

-- the bits that are known to be 1
abbrev pub ones : List ℕ → ℕ
ones a = slice_index a 1

-- no bit is in both
abbrev pub IsKnown : List ℕ → Type 0
IsKnown a = (i : ℕ) → ¬ ((bit_at (known_zeros a) i ≡ 1) × (bit_at (ones a) i ≡ 1))

-- the word is 0 on the bits of zeros and 1 on the bits of ones
pub record HasKnown (a : List ℕ) (c : ℕ) : Type 0 where
  pub clear : (i : ℕ) → bit_at (known_zeros a) i ≡ 1 → bit_at c i ≡ 0
  pub set : (i : ℕ) → bit_at (ones a) i ≡ 1 → bit_at c i ≡ 1

-- the domain of known bits
abbrev pub known_bits : Meaning
known_bits = record { fields = 2; Valid = λ w. IsKnown; Member = λ w. HasKnown }

-- no bit is known
abbrev pub known_top : List ℕ
known_top = 0 ∷ 0 ∷ []

-- all bits are known
abbrev pub known_of_word : ℕ → ℕ → List ℕ
known_of_word w c = complement w c ∷ c ∷ []

-- what is known of both
abbrev pub known_join : List ℕ → List ℕ → List ℕ
known_join a b = bit_and (known_zeros a) (known_zeros b) ∷ bit_and (ones a) (ones b) ∷ []

-- the same where no bit is in both
abbrev pub known_tidy : List ℕ → Option (List ℕ)
known_tidy raw = if bit_and (known_zeros raw) (ones raw) == 0 then Some raw else None

-- how many bits are known
abbrev pub known_rank : List ℕ → ℕ
known_rank a = count_ones (known_zeros a) + count_ones (ones a)

-- no bit is in both
abbrev pub known_valid_term : Term
known_valid_term = binary Eq (binary And (Field 0) (Field 1)) (Const 0)

-- the word is 0 on the bits of zeros and 1 on the bits of ones
abbrev pub known_member_term : Term
known_member_term =
    let clear = binary Eq (binary And (Field 2) (Field 0)) (Const 0) in
    let set = binary Eq (binary And (Field 2) (Field 1)) (Field 1) in
    binary And clear set

-- known bits as a domain
abbrev pub all_known_bits : Abstraction
all_known_bits = record {
  meaning = known_bits;
  top = λ w. known_top;
  of_word = known_of_word;
  some_member = λ w. ones;
  join = λ w. known_join;
  tidy = λ w. known_tidy;
  rank = λ w. known_rank;
  valid_term = λ w. known_valid_term;
  member_term = λ w. known_member_term;
}
