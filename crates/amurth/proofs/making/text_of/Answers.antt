use Rattle.am_dual.specs.Synthesis.{IsSynthesis}
use Rattle.std.proofs.Common.{subst, sym}
use Rattle.am_problem.specs.Limits.{IsProblem}
use Rattle.amurth.proofs.Printable.{transformer_printable}
use Rattle.amurth.proofs.Syntheses.{made_not_absent}
use Rattle.am_problem.proofs.Laws.{made-problem}
use Rattle.amurth.proofs.making.text_of.Goals as goal

pub summary-requires-clause-terms : goal.summary-requires-clause-terms
summary-requires-clause-terms c =
    let best = subst (IsSynthesis c.args.problem) c.in-Best.is c.requires.synthesis in
    rw c.as_slice.ensures
    (transformer_printable c.args.problem (subst IsProblem (sym c.requires.made) (made-problem c.args.number))
    c.in-Best.term best.0.derivable)

pub unreachable-requires : goal.unreachable-requires
unreachable-requires c =
    made_not_absent c.args.number c.args.problem c.requires.made c.in-Absent.trace c.in-Absent.log
    (subst (IsSynthesis c.args.problem) c.in-Absent.is c.requires.synthesis)
