use Rattle.std.proofs.Common.{◌≡◌, map, take}
use Rattle.am_blast.specs.Words.{constant}
use Rattle.am_query.proofs.words.constants.Given as goal

abbrev pub invariant-loop-c : goal.invariant-loop-c
invariant-loop-c l = l.words ≡ map (constant l.w) (take l.c-index l.row)
