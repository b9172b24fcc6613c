use Rattle.std.proofs.Common.{ℕ, ◌≡◌, ◌<◌, length, get_or}
use Rattle.am_chain.specs.Trimmed.{kept_below}
use Rattle.am_chain.specs.inside.Marks.{mark_at}
use Rattle.am_chain.proofs.trimming.counts_before.Given as goal

abbrev pub invariant-loop-is_needed : goal.invariant-loop-is_needed
invariant-loop-is_needed l = record {
  len : length l.before.items ≡ l.is_needed-index;
  count : l.count ≡ kept_below (mark_at l.needed) l.is_needed-index;
  counts : (k : ℕ) → k < l.is_needed-index → get_or l.before.items k 0 ≡ kept_below (mark_at l.needed) k;
}
