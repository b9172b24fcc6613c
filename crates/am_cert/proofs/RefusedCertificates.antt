-- A certificate that is refused at a token is refused whatever follows it.
use Rattle.std.proofs.Common.{ℕ, List, codes, Ok, Err, refl}
use Rattle.am_text.specs.Tokens.{Left, Placed}
use Rattle.am_problem.specs.Grammar.{problem}
use Rattle.am_problem.specs.Lines.{Lines}
use Rattle.am_problem.specs.Texts.{Draft as ProblemDraft, draft as problem_draft, draft_with, named}
use Rattle.am_problem.proofs.Laws.{lines_back, lines_good, lines_of_formed, problem_law}
use Rattle.am_syntax.specs.Exact.{IsExact, always}
use Rattle.am_syntax.specs.Pieces.{◌▹◌, Piece, closed, keyed}
use Rattle.am_syntax.specs.Readers.{◌>>=◌, Read, done, onward}
use Rattle.am_syntax.specs.Texts.{IsTextOf, RefusesForGood}
use Rattle.am_syntax.proofs.Laws.{EndAlike, refuses_alike, text_refused, then_law}
use Rattle.am_cert.specs.Grammar.{answer, shape_of, version}
use Rattle.am_cert.specs.Certificate.{Certificate, answer_of}
use Rattle.am_cert.specs.Texts.{CertificatesAreRefusedForGood, Draft, IsCertificateText, ReadsAsCertificate, answered}
use Rattle.am_cert.specs.Texts.{draft}
use Rattle.am_cert.specs.Versions.{has_hints}
use Rattle.am_cert.specs.declared.answer.Answer.{Answer}
use Rattle.am_cert.specs.declared.version.Version.{Version}
use Rattle.am_cert.proofs.AnswerLaws.{answered_law}
use Rattle.am_cert.proofs.CertificateLaws.{heading_law, lines_shape}
use Rattle.am_cert.proofs.Following.{good_answer}

-- answer ANSWER end, after the lines of a problem
abbrev answer_lines : Version → Lines → Piece Answer
answer_lines v l = closed (codes "end") (keyed (codes "answer") (answer (has_hints v) (shape_of l)))

-- the lines of a problem, and its answer
abbrev solved_lines : Version → Piece (Lines × Answer)
solved_lines v = problem ▹ answer_lines v

-- a version, and the lines of a problem with its answer
abbrev AllLines : Type 0
AllLines = Version × (Lines × Answer)

-- all lines of a certificate, before its problem is settled
abbrev certificate_lines : Piece AllLines
certificate_lines = keyed (codes "certificate") version ▹ solved_lines

solved_law : (v : Version) → IsExact (solved_lines v) always
solved_law v =
    then_law problem_law
    (λ l good. answered_law (shape_of l) (lines_shape l (lines_good l good)) (has_hints v)) (λ _ _ _ _ _ _. tt)

lines_law : IsExact certificate_lines always
lines_law = then_law heading_law (λ v _. solved_law v) (λ _ _ _ _ _ _. tt)

-- ---- the draft ends as the lines do

-- a certificate before its problem is settled
abbrev draft_by : Version → ProblemDraft → Answer → Draft
draft_by v d a = record { version = v; problem = d; answer = a }

answer_alike : (v : Version) (d : ProblemDraft) (l : Lines) (read : Read Answer) →
    EndAlike {Y = AllLines} (onward (λ a. done (draft_by v d a)) read)
    (onward (λ y. done (v, y)) (onward (λ a. done (l, a)) read))
answer_alike v d l (Ok x) = refl
answer_alike v d l (Err stop) = refl

solved_alike : (v : Version) (tokens : List Placed) (read : Read Lines) →
    EndAlike {Y = AllLines}
    (onward (λ d. answered v d >>= λ a. done (draft_by v d a)) (onward (λ l. done (draft_with tokens l)) read))
    (onward (λ y. done (v, y)) (onward (λ l. (answer_lines v l).read >>= λ a. done (l, a)) read))
solved_alike v tokens (Ok x) = answer_alike v (draft_with tokens x.0) x.0 ((answer_lines v x.0).read x.1)
solved_alike v tokens (Err stop) = refl

headed_alike : (read : Read Version) →
    EndAlike {Y = AllLines} (onward (λ v. problem_draft >>= λ d. answered v d >>= λ a. done (draft_by v d a)) read)
    (onward (λ v. (solved_lines v).read >>= λ y. done (v, y)) read)
headed_alike (Ok x) = solved_alike x.0 x.1.tokens (problem.read x.1)
headed_alike (Err stop) = refl

drafts_alike : (s : Left) → EndAlike (draft s) (certificate_lines.read s)
unfolding draft
drafts_alike s = headed_alike ((keyed (codes "certificate") version).read s)

-- ---- whole texts

-- the text of a certificate is that of its lines
certificate_text : (text : List ℕ) (c : Certificate) → ReadsAsCertificate text c →
    IsTextOf certificate_lines text (c.version, (named c.problem, answer_of c))
unfolding version
certificate_text text c reads =
    let is = reads.limits in
    let l = named c.problem in
    record {
      allowed = reads.allowed;
      spelled = reads.spelled;
      good = (
        tt,
        (
          lines_back l (lines_of_formed c.problem is.problem.formed),
          good_answer (shape_of l) c.version (has_hints c.version) refl c.outcome c.proofs is.outcome is.proofs,
        ),
      );
    }

-- a refused token is refused whatever follows it
pub certificate_refused : CertificatesAreRefusedForGood
certificate_refused =
    refuses_alike draft certificate_lines.read IsCertificateText drafts_alike
    (λ text other r at good refused stops (c, reads).
    text_refused lines_law tt text other r at good refused stops
    ((c.version, (named c.problem, answer_of c)), certificate_text other c reads))
