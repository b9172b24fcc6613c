use Rattle.std.proofs.Common.{◌≡◌, take}
use Rattle.am_problem.specs.StoredLines.{seen_names}
use Rattle.am_problem.proofs.generator.names_of.Given as goal

abbrev pub invariant-loop-name : goal.invariant-loop-name
invariant-loop-name l = l.names ≡ seen_names (take l.name-index l.name-items)
