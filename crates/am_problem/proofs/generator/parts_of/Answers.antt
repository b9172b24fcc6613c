use Rattle.am_problem.proofs.GeneratorLaws.{made-problem, made_operation-pair}
use Rattle.am_problem.proofs.generator.parts_of.Goals as goal

pub binary-requires : goal.binary-requires
binary-requires c = rw c.operation_of.ensures (made_operation-pair c.args.n)

pub invariant_of-result : goal.invariant_of-result
invariant_of-result c =
    record {
      well_formed = rw (
        c.in_ok-rules.ensures,
        c.in_ok-starts.ensures,
        c.depth_of.ensures,
        c.fields-fields.ensures.value,
        c.width_of-width.ensures,
        c.kind_of-kind.ensures,
      ) (made-problem c.args.n).formed.grammar;
    }
