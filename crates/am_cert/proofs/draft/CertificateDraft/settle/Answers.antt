use Rattle.std.proofs.Common.{subst}
use Rattle.am_problem.specs.StoredDraft.{seen_draft as seen_problem}
use Rattle.am_cert.specs.Grammar.{outcome}
use Rattle.am_cert.proofs.Shaping.{settled_shape}
use Rattle.am_cert.proofs.draft.CertificateDraft.settle.Goals as goal

pub invariant_of-result : goal.invariant_of-result
invariant_of-result c = record {
  problem = c.keeps_limits.ensures;
  outcome =
      subst (λ k. (outcome k).Good c.args.self.answer.outcome)
      (settled_shape (seen_problem c.args.self.problem) c.in_ok-problem.problem c.in_ok-problem.ensures)
      c.args.self.can.outcome;
  bounded = c.args.self.can.bounded;
  proofs = c.args.self.can.proofs;
}
