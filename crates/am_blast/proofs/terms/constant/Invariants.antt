use Rattle.std.proofs.Common.{◌≡◌, ◌++◌, ◌-◌}
use Rattle.am_blast.specs.Words.{constant}
use Rattle.am_blast.proofs.terms.constant.Given as goal

abbrev pub invariant-loop : goal.invariant-loop
invariant-loop l = l.word ++ constant (l.fn.w - l.counter) l.rest ≡ constant l.fn.w l.c
