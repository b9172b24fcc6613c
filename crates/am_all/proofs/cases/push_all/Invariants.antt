use Rattle.std.proofs.Common.{◌≡◌, ◌++◌, take}
use Rattle.am_all.proofs.cases.push_all.Given as goal

abbrev pub invariant-loop-c : goal.invariant-loop-c
invariant-loop-c l = l.row ≡ l.initial.row ++ take l.c-index l.words
