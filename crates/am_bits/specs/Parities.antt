-- The parity of words. A tuple has one word p: its bit 0 stands for the even words and its bit 1 for the odd ones.
use Rattle.std.specs.Prelude.{◌≡◌, ℕ, ◌-◌, ◌%◌, ◌≤◌, if◌then◌else◌, List, [], ◌∷◌, slice_index, ◌==◌, bit_and, bit_or}
use Rattle.std.specs.Prelude.{count_ones}
use Rattle.std.specs.declared.option.Option.{Option}
use Rattle.std.specs.declared.option.Option.TheVariants.{Some, None}
use Rattle.std.specs.Int.{bit_at}
use Rattle.am_bv.specs.declared.op.Op.TheVariants.{And, Lshr, Ule}
use Rattle.am_bv.specs.declared.term.Term.{Term}
use Rattle.am_bv.specs.declared.term.Term.TheVariants.{Const, Field}
use Rattle.am_bv.specs.Terms.{binary}
use Rattle.am_domain.specs.Abstraction.{Abstraction}
use Rattle.am_domain.specs.Meaning.{Meaning}

-- p is 1, 2 or 3
abbrev pub IsParity : List ℕ → Type 0
IsParity a = (1 ≤ slice_index a 0) × (slice_index a 0 ≤ 3)

-- the bit of p that stands for the word is 1
abbrev pub HasParity : List ℕ → ℕ → Type 0
HasParity a c = bit_at (slice_index a 0) (c % 2) ≡ 1

-- the domain of parities
abbrev pub parities : Meaning
parities = record { fields = 1; Valid = λ w. IsParity; Member = λ w. HasParity }

-- even and odd words
abbrev pub parity_top : List ℕ
parity_top = 3 ∷ []

-- the bit of the word alone
abbrev pub parity_of_word : ℕ → List ℕ
parity_of_word c = (if c % 2 == 0 then 1 else 2) ∷ []

-- the least member
abbrev pub parity_some_member : List ℕ → ℕ
parity_some_member a = if bit_at (slice_index a 0) 0 == 1 then 0 else 1

-- the bits of either
abbrev pub parity_join : List ℕ → List ℕ → List ℕ
parity_join a b = bit_or (slice_index a 0) (slice_index b 0) ∷ []

-- the two bits of p that are read, where one of them is 1
abbrev pub parity_tidy : List ℕ → Option (List ℕ)
parity_tidy raw = let p = bit_and (slice_index raw 0) 3 in if p == 0 then None else Some (p ∷ [])

-- how many of the two bits are 0
abbrev pub parity_rank : List ℕ → ℕ
parity_rank a = 2 - count_ones (slice_index a 0)

-- p is at least 1 and at most 3
abbrev pub parity_valid_term : Term
parity_valid_term = binary And (binary Ule (Const 1) (Field 0)) (binary Ule (Field 0) (Const 3))

-- p shifted to the bit that stands for the word
abbrev pub parity_member_term : Term
parity_member_term = binary And (binary Lshr (Field 0) (binary And (Field 1) (Const 1))) (Const 1)

-- parities as a domain
abbrev pub all_parities : Abstraction
all_parities = record {
  meaning = parities;
  top = λ w. parity_top;
  of_word = λ w. parity_of_word;
  some_member = λ w. parity_some_member;
  join = λ w. parity_join;
  tidy = λ w. parity_tidy;
  rank = λ w. parity_rank;
  valid_term = λ w. parity_valid_term;
  member_term = λ w. parity_member_term;
}
