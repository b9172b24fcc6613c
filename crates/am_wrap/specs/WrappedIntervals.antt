-- Wrapped intervals. A tuple has two words, its start and its end: the members are the words from the start upwards
-- by 1, modulo 2 ^ w, to the end.
use Rattle.std.specs.Prelude.{ℕ, ◌+◌, ◌-◌, ◌%◌, ◌^◌, ◌<◌, ◌≤◌, Bool, true, false, ◌&&◌, ◌||◌, if◌then◌else◌, nat_lt}
use Rattle.std.specs.Prelude.{nat_le, ◌==◌, List, [], ◌∷◌, slice_index, ⊤}
use Rattle.std.specs.declared.option.Option.{Option}
use Rattle.std.specs.declared.option.Option.TheVariants.{Some}
use Rattle.am_bv.specs.Terms.{binary}
use Rattle.am_bv.specs.declared.op.Op.TheVariants.{Sub, Ule}
use Rattle.am_bv.specs.declared.term.Term.{Term}
use Rattle.am_bv.specs.declared.term.Term.TheVariants.{Const, Field}
use Rattle.am_domain.specs.Abstraction.{Abstraction}
use Rattle.am_domain.specs.Meaning.{Meaning}
use Rattle.am_domain.specs.Walk.{point, steps}

-- the word that the walk begins with
abbrev pub start : List ℕ → ℕ
start a = slice_index a 0

-- the word that the walk ends with
abbrev pub end : List ℕ → ℕ
end a = slice_index a 1

-- how many steps lead from the start to the end
abbrev pub span : ℕ → List ℕ → ℕ
span w a = steps w (start a) (end a)

-- no more steps lead from the start to the word than to the end
abbrev pub IsOnTheWay : ℕ → List ℕ → ℕ → Type 0
IsOnTheWay w a c = steps w (start a) c ≤ span w a

-- the domain of wrapped intervals, in which each tuple is a value
abbrev pub wrapped_intervals : Meaning
wrapped_intervals = record { fields = 2; Valid = λ w a. ⊤; Member = IsOnTheWay }

-- all words
abbrev pub wrapped_top : ℕ → List ℕ
wrapped_top w = 0 ∷ (2 ^ w - 1) ∷ []

-- each member of the first is one of the second
abbrev pub LiesIn : ℕ → List ℕ → List ℕ → Type 0
LiesIn w a b = (c : ℕ) → c < 2 ^ w → IsOnTheWay w a c → IsOnTheWay w b c

-- whether the first lies in the second: the second has all words, or the first begins and ends within it
abbrev pub lies_in : ℕ → List ℕ → List ℕ → Bool
lies_in w a b = (span w b == 2 ^ w - 1) || nat_le (steps w (start b) (start a) + span w a) (span w b)

-- whether both lie in a third
abbrev pub both_lie_in : ℕ → List ℕ → List ℕ → List ℕ → Bool
both_lie_in w a b c = lies_in w a c && lies_in w b c

-- from the start of the first to the end of the second
abbrev pub across : List ℕ → List ℕ → List ℕ
across a b = start a ∷ end b ∷ []

-- all words, from this one on
abbrev pub round_from : ℕ → ℕ → List ℕ
round_from w c = c ∷ (c + (2 ^ w - 1)) % 2 ^ w ∷ []

-- of two candidates the one with the smaller span, or the first; where only one is a candidate, that one; else all
-- words
abbrev pub narrower : ℕ → ℕ → List ℕ → List ℕ → Bool → Bool → List ℕ
narrower w c there back true true = if nat_lt (span w back) (span w there) then back else there
narrower w c there back true false = there
narrower w c there back false true = back
narrower w c there back false false = round_from w c

-- the narrower one of the two intervals across the first and the second in which both lie
abbrev pub bridge : ℕ → List ℕ → List ℕ → List ℕ
bridge w a b =
    narrower w (start a) (across a b) (across b a) (both_lie_in w a b (across a b)) (both_lie_in w a b (across b a))

-- the first where the second lies in it, else the second where the first lies in it, else the bridge of the two
abbrev pub wrapped_join : ℕ → List ℕ → List ℕ → List ℕ
wrapped_join w a b = if lies_in w b a then a else if lies_in w a b then b else bridge w a b

-- the same tuple, always
abbrev pub wrapped_tidy : List ℕ → Option (List ℕ)
wrapped_tidy raw = Some raw

-- how many of the 2 ^ w words lie outside
abbrev pub wrapped_rank : ℕ → List ℕ → ℕ
wrapped_rank w a = 2 ^ w - 1 - span w a

-- not 0 at every tuple
abbrev pub wrapped_valid_term : Term
wrapped_valid_term = Const 1

-- no more steps to the word than to the end
abbrev pub wrapped_member_term : Term
wrapped_member_term = binary Ule (binary Sub (Field 2) (Field 0)) (binary Sub (Field 1) (Field 0))

-- wrapped intervals as a domain
abbrev pub all_wrapped_intervals : Abstraction
all_wrapped_intervals = record {
  meaning = wrapped_intervals;
  top = wrapped_top;
  of_word = λ w. point;
  some_member = λ w. start;
  join = wrapped_join;
  tidy = λ w. wrapped_tidy;
  rank = wrapped_rank;
  valid_term = λ w. wrapped_valid_term;
  member_term = λ w. wrapped_member_term;
}
