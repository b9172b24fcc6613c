use Rattle.std.proofs.Common.{◌≡◌, take}
use Rattle.am_problem.specs.Generator.{field_rule}
use Rattle.am_problem.proofs.generator.field_rule.Given as goal

abbrev pub invariant-loop-op : goal.invariant-loop-op
invariant-loop-op l = l.rule ≡ field_rule l.argument (take l.op-index l.operators) l.word
