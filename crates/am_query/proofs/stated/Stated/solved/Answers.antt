use Rattle.std.proofs.Common.{arith}
use Rattle.am_query.proofs.stated.Stated.solved.Goals as goal

pub refutation-requires : goal.refutation-requires
refutation-requires c =
    let unsat = rw c.in-Unsat.is at c.in_ok-assignment.ensures.answer in
    record {
      refutes = unsat.0;
      short = unsat.2;
      few_clauses = c.requires.few_clauses;
      few_chains = omega (arith, unsat.1, c.requires.most);
    }
