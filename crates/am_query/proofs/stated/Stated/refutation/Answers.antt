use Rattle.std.proofs.Common.{length, arith}
use Rattle.am_query.proofs.Answering.{short_trimmed}
use Rattle.am_query.proofs.stated.Stated.refutation.Goals as goal

pub trimmed-requires : goal.trimmed-requires
trimmed-requires c =
    record { refutes = c.requires.refutes; numbers = omega (arith, c.requires.few_clauses, c.requires.few_chains) }

pub returns-clause-short : goal.returns-clause-short
returns-clause-short c =
    let formula = c.args.self.now.formula in
    short_trimmed c.trimmed_chains_are_the_logs.ensures formula.vars (length formula.clauses) c.args.log.now
    c.in_ok-kept.kept
    c.in_ok-kept.ensures.needed c.requires.short
