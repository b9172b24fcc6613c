use Rattle.std.proofs.Common.{length, ap, cond, le-ltb, ◌∙◌}
use Rattle.std.proofs.lemmas.List.{length-map}
use Rattle.am_cert.specs.StoredDraft.{seen_draft}
use Rattle.am_cert.specs.Texts.{Draft, draft}
use Rattle.am_syntax.specs.Readers.{Read, judged}
use Rattle.am_syntax.specs.Texts.{refusal_at}
use Rattle.am_syntax.specs.declared.refusal.Cause.TheVariants.{Count}
use Rattle.am_syntax.proofs.Laws.{refused_alike}
use Rattle.std.proofs.Common.{Err, nat_lt}
use Rattle.amurth.specs.declared.limits.TheConstants.{MOST_CERTIFICATES}
use Rattle.amurth.proofs.inputs.certificate_after.Goals as goal

pub returns-in-Err-clause-value : goal.returns-in-Err-clause-value
returns-in-Err-clause-value c =
    let old = c.args.text.now in
    let left = c.refuse_next.new.text in
    let cause = c.in-Err.cause in
    let seen = c.args.seen.now in
    let refused : Read Draft = judged (λ _. Err Count) old in
    let full = le-ltb (length seen) MOST_CERTIFICATES c.if-seen-lt-MOST_CERTIFICATES.false in (
      cause,
      ap (λ n. cond (nat_lt n MOST_CERTIFICATES) (draft old) refused) (length-map seen seen_draft)
          ∙ ap (λ b. cond b (draft old) refused) full
          ∙ refused_alike Count (cause, left) old c.in-Err.ensures.value,
      c.at.ensures ∙ ap (refusal_at cause) c.place.ensures,
    )
