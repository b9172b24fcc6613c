use Rattle.std.proofs.Common.{◌≡◌, map, take}
use Rattle.am_problem.specs.StoredLines.{seen_productions}
use Rattle.am_problem.specs.Texts.{numbered_production}
use Rattle.am_problem.specs.inside.Names.{names_in}
use Rattle.am_problem.proofs.numbering.number_productions.Given as goal

abbrev pub invariant-loop-production : goal.invariant-loop-production
invariant-loop-production l =
    l.numbered ≡ map (numbered_production (names_in l.names)) (seen_productions (take l.production-index l.productions))
