-- The two domains of intervals.
use Rattle.std.specs.Prelude.{ℕ, List}
use Rattle.am_bv.specs.Words.{signed}
use Rattle.am_bv.specs.declared.op.Op.{Op}
use Rattle.am_bv.specs.declared.op.Op.TheVariants.{Sle, Ule}
use Rattle.am_domain.specs.Abstraction.{Abstraction}
use Rattle.am_domain.specs.Walk.{point}
use Rattle.am_interval.specs.Intervals.{Reading, hull, intervals, least, signed_top, tidied, unsigned}
use Rattle.am_interval.specs.Intervals.{unsigned_top, words_outside}
use Rattle.am_interval.specs.Terms.{between_term, order_term}

-- intervals in the order of these numbers, with the interval of all words, and the operator that tells whether a word
-- is at most another
abbrev pub interval_domain : Reading → (ℕ → List ℕ) → Op → Abstraction
interval_domain number top at_most = record {
  meaning = intervals number;
  top = top;
  of_word = λ w. point;
  some_member = λ w. least;
  join = hull number;
  tidy = tidied number;
  rank = words_outside number;
  valid_term = λ w. order_term at_most;
  member_term = λ w. between_term at_most;
}

-- intervals in the order of unsigned numbers
abbrev pub unsigned_intervals : Abstraction
unsigned_intervals = interval_domain unsigned unsigned_top Ule

-- intervals in the order of signed numbers
abbrev pub signed_intervals : Abstraction
signed_intervals = interval_domain signed signed_top Sle
