use Rattle.std.proofs.Common.{◌≡◌, ◌≤◌, [], codes, length, map}
use Rattle.am_cert.specs.StoredDraft.{seen_draft}
use Rattle.am_cert.specs.Texts.{IsShort}
use Rattle.am_syntax.specs.Pieces.{next_is, repeat_from}
use Rattle.amurth.specs.Analysed.{certificate_after}
use Rattle.amurth.specs.declared.limits.TheConstants.{MOST_CERTIFICATES}
use Rattle.amurth.proofs.inputs.read_certificates.Given as goal

abbrev pub decreases-drafts : goal.decreases-drafts
decreases-drafts l = length l.text.tokens

abbrev pub invariant-drafts : goal.invariant-drafts
invariant-drafts l = record {
  left : IsShort l.text;
  few : length l.drafts.items ≤ MOST_CERTIFICATES;
  read : repeat_from (next_is (codes "certificate")) certificate_after (map seen_draft l.drafts.items) l.text ≡
      repeat_from (next_is (codes "certificate")) certificate_after [] l.initial.text;
}
