use Rattle.std.proofs.Common.{subst, sym}
use Rattle.am_syntax.proofs.Laws.{text_closed}
use Rattle.am_syntax.specs.Readers.{Makes}
use Rattle.am_syntax.specs.Texts.{Answers}
use Rattle.am_problem.specs.Texts.{draft, draft_of}
use Rattle.am_problem.proofs.text.read_text.Goals as goal

pub returns : goal.returns
returns c =
    subst (λ r. Answers (λ d. d) r (draft_of c.args.text.now)) (sym c.close.ensures)
    (text_closed draft (λ d. d) c.args.text.now c.read_draft-read.new.text c.read_draft-read.result
    c.in_ok-cursor.ensures.good
    (subst (λ s. Makes (λ d. d) c.read_draft-read.result s c.read_draft-read.new.text draft) c.in_ok-cursor.ensures.ok
    c.read_draft-read.ensures))
