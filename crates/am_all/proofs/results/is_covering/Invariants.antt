use Rattle.std.proofs.Common.{ℕ, ◌<◌}
use Rattle.std.specs.Prelude.{slice_index, slice_index_or}
use Rattle.am_all.specs.declared.cases.Case.{Case}
use Rattle.am_all.specs.inside.Results.{IsSubset, set_at}
use Rattle.am_all.proofs.results.is_covering.Given as goal

abbrev pub invariant-loop-i : goal.invariant-loop-i
invariant-loop-i l = (k : ℕ) (d : Case) → k < l.i →
    IsSubset (slice_index_or l.cases k d).images (set_at l.sets (slice_index l.numbers k))
