use Rattle.std.proofs.Common.{◌≡◌, ◌++◌, drop}
use Rattle.am_chain.specs.Trimmed.{kept_chains, moved_number}
use Rattle.am_chain.specs.inside.Marks.{mark_at}
use Rattle.am_chain.proofs.trimming.kept_of.Given as goal

abbrev pub invariant-loop-k : goal.invariant-loop-k
invariant-loop-k l =
    l.kept ++ kept_chains (moved_number l.given (mark_at l.needed)) (mark_at l.needed) l.k (drop l.k l.log)
    ≡ kept_chains (moved_number l.given (mark_at l.needed)) (mark_at l.needed) 0 l.log
