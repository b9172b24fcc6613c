use Rattle.std.proofs.Common.{subst, sym}
use Rattle.am_syntax.specs.Readers.{Makes}
use Rattle.am_syntax.specs.Texts.{Answers}
use Rattle.am_syntax.proofs.Laws.{text_closed}
use Rattle.am_cert.specs.StoredDraft.{seen_draft}
use Rattle.am_cert.specs.Texts.{IsShort, draft, draft_of}
use Rattle.am_cert.proofs.Bounds.{text_short}
use Rattle.am_cert.proofs.reading.read_text.Goals as goal

pub take_certificate-read-requires : goal.take_certificate-read-requires
take_certificate-read-requires c =
    subst IsShort (sym c.in_ok-cursor.ensures.ok) (text_short c.args.text.now c.requires)

pub returns : goal.returns
returns c =
    let read = c.take_certificate-read.result in
    let left = c.take_certificate-read.new.text in
    subst (λ r. Answers seen_draft r (draft_of c.args.text.now)) (sym c.close.ensures)
    (text_closed draft seen_draft c.args.text.now left read c.in_ok-cursor.ensures.good
    (subst (λ s. Makes seen_draft read s left draft) c.in_ok-cursor.ensures.ok c.take_certificate-read.ensures.read))
