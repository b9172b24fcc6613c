use Rattle.std.proofs.Common.{◌≡◌, take}
use Rattle.am_problem.specs.Grammar.{names_of}
use Rattle.am_problem.specs.StoredLines.{seen_rules}
use Rattle.am_problem.specs.inside.Names.{names_in}
use Rattle.am_problem.proofs.numbering.index_names.Given as goal

abbrev pub invariant-loop-rule : goal.invariant-loop-rule
invariant-loop-rule l = names_in l.names ≡ names_of (seen_rules (take l.rule-index l.rules))
