use Rattle.am_bv.specs.Words.{AreWords}
use Rattle.am_test_problems.proofs.domains.row.Given as goal

abbrev pub invariant-loop-number : goal.invariant-loop-number
invariant-loop-number l = AreWords l.w l.row
