use Rattle.std.proofs.Common.{eqb}
use Rattle.std.proofs.lemmas.List.Filters.{dedup_is}
use Rattle.am_gate.proofs.Sorting.{sorted_by_sort}
use Rattle.am_gate.proofs.sorted.sort.Goals as goal

pub returns : goal.returns
returns c =
    sorted_by_sort c.args.literals.now c.sort_unstable.new.self.items c.dedup.new.self.items
    (rw (c.in_ok-extend_from_slice.ensures.items, c.clear.ensures.items) at c.sort_unstable.ensures.permutation)
    c.sort_unstable.ensures.sorted
    (dedup_is eqb _ _ c.dedup.ensures.filtered)
