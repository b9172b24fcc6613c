use Rattle.std.proofs.Common.{◌%◌, arith}
use Rattle.std.proofs.Math.Nat.{mod-lt}
use Rattle.std.proofs.lemmas.List.{get_or_default}
use Rattle.am_problem.specs.Generator.{made_operators}
use Rattle.am_problem.proofs.generator.operator_of.Goals as goal

pub returns : goal.returns
returns c = get_or_default made_operators (c.args.s % 8) _ _ (mod-lt c.args.s (omega arith))
