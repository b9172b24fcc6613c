use Rattle.std.proofs.Common.{◌≡◌, ◌++◌, take}
use Rattle.am_problem.proofs.rows.ShortRow.extend.Given as goal

abbrev pub invariant-loop-c : goal.invariant-loop-c
invariant-loop-c g l = l.self ≡ l.initial.self ++ take l.c-index l.words
