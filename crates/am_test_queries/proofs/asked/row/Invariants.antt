use Rattle.std.proofs.Common.{◌≡◌, length}
use Rattle.am_bv.specs.Words.{AreWords}
use Rattle.am_test_queries.proofs.asked.row.Given as goal

abbrev pub invariant-loop-digit : goal.invariant-loop-digit
invariant-loop-digit g l = AreWords l.w l.row × (length l.row ≡ l.digit-index)
