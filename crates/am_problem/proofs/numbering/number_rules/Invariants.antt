use Rattle.std.proofs.Common.{◌≡◌, take}
use Rattle.am_problem.specs.StoredLines.{seen_rules}
use Rattle.am_problem.specs.Texts.{numbered_rules}
use Rattle.am_problem.specs.inside.Names.{names_in}
use Rattle.am_problem.proofs.numbering.number_rules.Given as goal

abbrev pub invariant-loop-rule : goal.invariant-loop-rule
invariant-loop-rule l = l.numbered ≡ numbered_rules (names_in l.names) (seen_rules (take l.rule-index l.rules))
