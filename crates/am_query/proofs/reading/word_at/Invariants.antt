use Rattle.std.proofs.Common.{◌≡◌, ℕ, List, ◌++◌}
use Rattle.am_lit.specs.Truth.{value_at}
use Rattle.am_blast.specs.Words.{reads}
use Rattle.am_query.proofs.reading.word_at.Given as goal

-- the literals that are left, and then those that the number reads
abbrev pub invariant-loop-l : goal.invariant-loop-l
invariant-loop-l l =
    (after : List ℕ) × (l.word ≡ l.l-iterator.iter.rest.now ++ after) × (l.number ≡ reads (value_at l.a.values) after)
