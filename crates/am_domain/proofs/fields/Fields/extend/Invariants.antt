use Rattle.std.proofs.Common.{◌≡◌, ◌++◌, take}
use Rattle.am_domain.proofs.fields.Fields.extend.Given as goal

abbrev pub invariant-loop-c : goal.invariant-loop-c
invariant-loop-c l = l.self ≡ l.initial.self ++ take l.c-index l.words
