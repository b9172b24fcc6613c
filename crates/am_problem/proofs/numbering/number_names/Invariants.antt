use Rattle.std.proofs.Common.{◌≡◌, map, take}
use Rattle.am_problem.specs.StoredLines.{seen_names}
use Rattle.am_problem.specs.Texts.{number_in}
use Rattle.am_problem.specs.inside.Names.{names_in}
use Rattle.am_problem.proofs.numbering.number_names.Given as goal

abbrev pub invariant-loop-name : goal.invariant-loop-name
invariant-loop-name l = l.numbers ≡ map (number_in (names_in l.names)) (seen_names (take l.name-index l.row))
