use Rattle.std.proofs.Common.{◌≡◌, map, take}
use Rattle.am_lit.specs.Truth.{value_at}
use Rattle.am_blast.specs.Words.{reads}
use Rattle.am_query.proofs.reading.row_at.Given as goal

abbrev pub invariant-loop-word : goal.invariant-loop-word
invariant-loop-word g l = l.row ≡ map (reads (value_at l.a.values)) (take l.word-index l.words)
