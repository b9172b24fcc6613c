use Rattle.std.proofs.Common.{◌≡◌, map, take}
use Rattle.am_problem.specs.Generator.{field_rule}
use Rattle.am_problem.proofs.generator.rules_of.Given as goal

abbrev pub invariant-loop-word : goal.invariant-loop-word
invariant-loop-word l = l.rules ≡ map (field_rule l.argument l.operators) (take l.word-index l.word-items)
