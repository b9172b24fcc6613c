use Rattle.std.proofs.Common.{◌/◌, ◌%◌, arith}
use Rattle.std.proofs.Math.Nat.{mod-lt}
use Rattle.std.proofs.lemmas.List.{get_or_default}
use Rattle.am_problem.specs.Generator.{made_operations}
use Rattle.am_problem.proofs.generator.operation_of.Goals as goal

pub returns : goal.returns
returns c = get_or_default made_operations (c.args.n / 35 % 12) _ _ (mod-lt (c.args.n / 35) (omega arith))
