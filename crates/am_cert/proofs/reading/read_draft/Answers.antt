use Rattle.am_problem.specs.StoredDraft.{seen_draft as seen_problem}
use Rattle.am_problem.specs.Texts.{draft as problem_draft}
use Rattle.am_problem.proofs.Laws.{draft_advances}
use Rattle.am_syntax.proofs.Laws.{reached_ok}
use Rattle.am_cert.specs.Texts.{IsShort}
use Rattle.am_cert.proofs.Bounds.{reached_short}
use Rattle.am_cert.proofs.CertificateLaws.{answer_follows, draft_shape, heading_law}
use Rattle.am_cert.proofs.Steps.{reached_after}
use Rattle.am_cert.proofs.reading.read_draft.Goals as goal

pub read_answer-requires : goal.read_answer-requires
read_answer-requires c =
    draft_shape c.read_version.new.text c.take_problem.new.text (seen_problem c.in_ok-problem.problem)
    c.in_ok-problem.ensures.read

pub invariant_of-result : goal.invariant_of-result
invariant_of-result c =
    let d = seen_problem c.in_ok-problem.problem in
    let v = c.in_ok-version.version in
    let old = c.args.text.now in
    let one = c.read_version.new.text in
    let mid = c.take_problem.new.text in
    let short : IsShort mid =
    reached_short one mid (reached_ok problem_draft one mid d draft_advances c.in_ok-problem.ensures.read)
    (reached_short old one (reached_after old one v heading_law c.in_ok-version.ensures) c.requires) in
    record {
      can =
          answer_follows one mid c.read_answer.new.text v d c.in_ok-answer.answer c.in_ok-problem.ensures.read
          c.in_ok-answer.ensures short;
    }
