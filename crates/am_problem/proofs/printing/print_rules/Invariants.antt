use Rattle.std.proofs.Common.{◌≡◌, ◌++◌, map, take}
use Rattle.am_syntax.specs.Canonical.{lines}
use Rattle.am_problem.specs.Printing.{rule_row}
use Rattle.am_problem.specs.Texts.{named}
use Rattle.am_problem.proofs.printing.print_rules.Given as goal

abbrev pub invariant-rules : goal.invariant-rules
invariant-rules l = l.out ≡ l.initial.out ++ lines (take l.i (map rule_row (named l.p).rules))
