-- Both domains of intervals keep all laws.
use Rattle.std.proofs.Common.{ℕ, List, lit≤, refl}
use Rattle.am_bv.specs.Words.{IsWidth, signed}
use Rattle.am_bv.specs.declared.op.Op.{Op}
use Rattle.am_bv.specs.declared.op.Op.TheVariants.{Sle, Ule}
use Rattle.am_domain.specs.Laws.{KeepsLaws}
use Rattle.am_domain.specs.AnchoredLaws.{IsAnchored}
use Rattle.am_interval.specs.Intervals.{Reading, signed_top, unsigned, unsigned_top}
use Rattle.am_interval.specs.Domains.{interval_domain, signed_intervals, unsigned_intervals}
use Rattle.am_interval.specs.lemmas.Laws as laws
use Rattle.am_interval.specs.lemmas.Numbers.{IsTop, signed_top-IsTop, unsigned_top-IsTop}
use Rattle.am_interval.specs.lemmas.Terms as terms
use Rattle.am_interval.specs.lemmas.Walks as walks

module _ (number : Reading) (top : ℕ → List ℕ) (at_most : Op) (is_top : (w : ℕ) → IsWidth w → IsTop number w (top w))
    (is_at_most : terms.IsAtMost number at_most) (is_modular : walks.IsModular number) where
  -- a reading with its top, its operator and its steps makes a domain
  interval_laws : KeepsLaws (interval_domain number top at_most)
  interval_laws = record {
    has_fields = lit≤ tt;
    few_fields = lit≤ tt;
    has_members = laws.has_members number top at_most;
    has_top = laws.has_top number top at_most is_top;
    holds_words = laws.holds_words number top at_most;
    joins_above = laws.joins_above number top at_most;
    descends = laws.descends number top at_most is_top;
    tidies = laws.tidies number top at_most;
    tells_validity = terms.tells_validity number top at_most is_at_most;
    tells_membership = terms.tells_membership number top at_most is_at_most;
  }

  -- whose values are walks
  interval_walks : IsAnchored (interval_domain number top at_most)
  interval_walks = record {
    has_two_fields = refl;
    has_start = walks.has_start number top at_most;
    has_points = walks.has_points number top at_most;
    keeps_start = walks.keeps_start number top at_most;
    walks_members = walks.walks_members number top at_most is_modular;
    has_parts = walks.has_parts number top at_most is_modular;
  }

unsigned-top : (w : ℕ) → IsWidth w → IsTop unsigned w (unsigned_top w)
unsigned-top w width = unsigned_top-IsTop w

signed-top : (w : ℕ) → IsWidth w → IsTop signed w (signed_top w)
signed-top w width = signed_top-IsTop w width.0

-- unsigned intervals keep all laws of a domain
pub unsigned_laws : KeepsLaws unsigned_intervals
unsigned_laws = interval_laws unsigned unsigned_top Ule unsigned-top terms.Ule-IsAtMost walks.unsigned-IsModular

-- signed intervals keep all laws of a domain
pub signed_laws : KeepsLaws signed_intervals
signed_laws = interval_laws signed signed_top Sle signed-top terms.Sle-IsAtMost walks.signed-IsModular

-- unsigned intervals keep those of a domain whose values are walks
pub unsigned_walks : IsAnchored unsigned_intervals
unsigned_walks = interval_walks unsigned unsigned_top Ule unsigned-top terms.Ule-IsAtMost walks.unsigned-IsModular

-- signed intervals keep those of a domain whose values are walks
pub signed_walks : IsAnchored signed_intervals
signed_walks = interval_walks signed signed_top Sle signed-top terms.Sle-IsAtMost walks.signed-IsModular
