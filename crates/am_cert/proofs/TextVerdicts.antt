-- A text has one certificate at most, and so one verdict.
use Rattle.std.proofs.Common.{◌≡◌, ◌∙◌, ℕ, Bool, List, inl, inr, arith, subst, sym, refl}
use Rattle.std.specs.Prelude.{Result, Ok, Err}
use Rattle.am_problem.specs.Problem.{Problem}
use Rattle.am_query.proofs.Laws.{verdicts_are_unique}
use Rattle.am_query.specs.declared.fault.Fault.{Fault}
use Rattle.am_query.specs.declared.outcome.Outcome.{Outcome}
use Rattle.am_syntax.specs.declared.refusal.Refusal.{Refusal}
use Rattle.am_cert.specs.Certificate.{Certificate}
use Rattle.am_cert.specs.Checking.{AcceptedTextsPass, HasFault, acceptance_with}
use Rattle.am_cert.specs.Texts.{IsOneCertificate, certificate_of}
use Rattle.am_cert.specs.Versions.{folds}
use Rattle.am_cert.specs.declared.answer.Proofs.{Proofs}
use Rattle.am_cert.specs.declared.answer.Proofs.TheVariants.{Chains, Hinted}
use Rattle.am_cert.specs.declared.feed.FeedEnd.TheVariants.{NoMemory, Refused, Rejected}
use Rattle.am_cert.proofs.CertificateLaws.{reads_to}

-- what is some certificate's text is no other one's
pub one_certificate : (text : List ℕ) → IsOneCertificate text
one_certificate text c d one other =
    let e : ◌≡◌ {A = Result Certificate Refusal} (Ok c) (Ok d) = sym (reads_to text c one) ∙ reads_to text d other in cc

-- what is accepted with some proofs has no fault with them
apart : (folding : Bool) (p : Problem) (o : Outcome) (proofs : Proofs) → (acceptance_with folding p o proofs).Passes →
    (f : Fault) → ¬ (acceptance_with folding p o proofs).Fails f
apart folding p o Chains passes f fails = (verdicts_are_unique folding p o).0.apart passes f fails
apart folding p o (Hinted first second) passes f fails =
    ((verdicts_are_unique folding p o).1 first second).apart passes f fails

-- a text of an accepted certificate gets no verdict but that it is accepted, where memory suffices
pub accepted_texts_pass : AcceptedTextsPass
accepted_texts_pass text c input accepted (Ok u) is = inl refl
accepted_texts_pass text c input accepted (Err (Refused r)) (inl long) = absurd (omega (arith, long.0, input.short))
accepted_texts_pass text c input accepted (Err (Refused r)) (inr first) =
    let read : certificate_of text ≡ Ok c = reads_to text c input.reads in
    absurd (let e : ◌≡◌ {A = Result Certificate Refusal} (Ok c) (Err r) = sym read ∙ first.1 in cc)
accepted_texts_pass text c input accepted (Err (Rejected f)) (d, other, fault) =
    let same : d ≡ c = one_certificate text d c other.reads input.reads in
    absurd (apart (folds c.version) c.problem c.outcome c.proofs accepted f
    (subst (λ (k : Certificate). HasFault k f) same fault))
accepted_texts_pass text c input accepted (Err NoMemory) is = inr refl
