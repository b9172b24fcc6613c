use Rattle.am_cert.proofs.Verdicts.{accepted_verdict, rejected_verdict, right_verdict}
use Rattle.am_cert.proofs.checking.check.Goals as goal

pub returns : goal.returns
returns c = record {
  accepted = accepted_verdict c.args.c.now c.verdict.result c.verdict.ensures.verdict;
  right = right_verdict c.args.c.now c.keeps_limits.ensures c.verdict.result c.verdict.ensures.verdict;
  rejected = rejected_verdict c.args.c.now c.verdict.result c.verdict.ensures.verdict;
  unfinished = c.verdict.ensures.unfinished;
}
