use Rattle.std.proofs.Common.{ℕ, ◌<◌}
use Rattle.std.specs.Prelude.{slice_index}
use Rattle.am_all.specs.inside.Results.{IsSubset, set_at}
use Rattle.am_all.proofs.results.is_inside.Given as goal

abbrev pub invariant-loop-i : goal.invariant-loop-i
invariant-loop-i l = (k : ℕ) → k < l.i →
    IsSubset (set_at l.sets (slice_index l.inner k)) (set_at l.sets (slice_index l.outer k))
