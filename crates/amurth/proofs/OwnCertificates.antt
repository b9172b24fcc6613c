-- What `synth` wrote as done is accepted.
use Rattle.std.proofs.Common.{◌≡◌, ◌≤◌, ℕ, List, length, Ok, Err, inl, inr, refl, subst, sym, true}
use Rattle.std.specs.Prelude.{◌⊎◌, IfOk, Result}
use Rattle.am_cert.specs.Certificate.{Certificate, IsCertificate}
use Rattle.am_cert.specs.Checking.{IsInputOf, IsVerdict}
use Rattle.am_cert.specs.Texts.{ReadsAsCertificate, certificate_of}
use Rattle.am_cert.specs.declared.feed.FeedEnd.{FeedEnd}
use Rattle.am_cert.specs.declared.feed.FeedEnd.TheVariants as feed
use Rattle.am_cert.specs.declared.limits.TheConstants.{MOST_BYTES}
use Rattle.am_cert.specs.declared.version.Version.TheVariants.{Two}
use Rattle.am_cert.proofs.Laws.{accepted_texts_pass, outcomes_are_writable, printed_certificates_read}
use Rattle.am_dual.specs.Synthesis.{IsSynthesis}
use Rattle.am_problem.specs.Problem.{Problem}
use Rattle.am_query.specs.Acceptance.{IsAccepted}
use Rattle.am_query.specs.declared.outcome.Outcome.{Outcome}
use Rattle.am_query.specs.declared.outcome.Outcome.TheVariants.{Absent, Best, Conflicts, Turns}
use Rattle.am_syntax.specs.declared.refusal.Refusal.{Refusal}
use Rattle.amurth.specs.Answers.{IsAnswer, IsInputText, IsRefusalBy}
use Rattle.amurth.specs.Checked.{IsCheckDue, IsJudged}
use Rattle.amurth.specs.Lines.{refusal_line}
use Rattle.amurth.specs.Synthesised.{IsSynthesised, certificate, status_of}
use Rattle.amurth.specs.declared.response.Response.{Response}
use Rattle.amurth.specs.declared.status.Status.{Status}
use Rattle.amurth.specs.declared.status.Status.TheVariants.{Done, Refused}
use Rattle.amurth.proofs.Syntheses.{synthesis_writable}

-- the outcome of a synthesis that is done is accepted
done_accepted : (p : Problem) (o : Outcome) → IsSynthesis p o → Done ≡ status_of o → IsAccepted true p o
done_accepted p (Best t trace sound_log best_log) is done = is.1
done_accepted p (Absent trace log) is done = is.1
done_accepted p (Turns trace) is done = cc done
done_accepted p (Conflicts trace asked log) is done = cc done

-- a text that was written by a synthesis is its certificate's
own_input : (input written : List ℕ) (s : IsSynthesised Done input written) → length written ≤ MOST_BYTES →
    IsInputOf written (certificate s.value s.due.outcome)
own_input input written s short =
    let c = certificate s.value s.due.outcome in
    let is : IsCertificate c =
    outcomes_are_writable Two s.value s.due.outcome refl s.text.reads.limits
    (synthesis_writable s.value s.due.outcome s.due.synthesis.synthesis) in
    record {
      short = short;
      reads = subst (λ text. ReadsAsCertificate text c) (sym s.due.wrote)
          (printed_certificates_read c is);
    }

-- it gets no other verdict
own_verdict : (input written : List ℕ) → IsSynthesised Done input written → length written ≤ MOST_BYTES →
    (verdict : Result (Unit {0}) FeedEnd) → IsVerdict written verdict →
    (verdict ≡ Ok tt) ⊎ (verdict ≡ Err feed.NoMemory)
own_verdict input written s short =
    accepted_texts_pass written (certificate s.value s.due.outcome) (own_input input written s short)
    (done_accepted s.value s.due.outcome s.due.synthesis.synthesis s.due.synthesis.ended)

no_fault : {P : Type 0} (e : FeedEnd) (verdict : Result (Unit {0}) FeedEnd) → verdict ≡ Err e →
    (verdict ≡ Ok tt) ⊎ (verdict ≡ Err feed.NoMemory) → (e ≡ feed.NoMemory → ⊥) → P
no_fault e verdict is (inl ok) other = cc (is, ok)
no_fault e verdict is (inr none) other = absurd (other (cc (is, none)))

own_judged : (c : Certificate) (status : Status) (text written : List ℕ) → IsInputText ReadsAsCertificate text c →
    IsJudged c status written →
    (input : List ℕ) → IsSynthesised Done input text → length text ≤ MOST_BYTES → status ≡ Done
own_judged c status text written is (inl passed) input s short = passed.ended
own_judged c status text written is (inr faulty) input s short =
    no_fault (feed.Rejected faulty.fault) (Err (feed.Rejected faulty.fault)) refl
    (own_verdict input text s short (Err (feed.Rejected faulty.fault))
    (c, record { short = is.short; reads = is.reads }, faulty.has)) (λ e. cc)

own_accepted : (status : Status) (text written : List ℕ) → IsAnswer ReadsAsCertificate certificate_of IsJudged status
    text written →
    (input : List ℕ) → IsSynthesised Done input text → length text ≤ MOST_BYTES → status ≡ Done
own_accepted status text written (inl h) input s short =
    own_judged h.value status text written h.text h.due input s short
own_accepted status text written (inr h) input s short =
    no_fault (feed.Refused h.refusal) (Err (feed.Refused h.refusal)) refl
    (own_verdict input text s short (Err (feed.Refused h.refusal)) h.first) (λ e. cc)

-- the answer to a text is due to it
pub check_due : {E : Type 0} (text : List ℕ) (result : Result Response E) →
    IfOk result (λ (r : Response). IsAnswer ReadsAsCertificate certificate_of IsJudged r.status text r.text.items) →
    IfOk result (λ (r : Response). IsCheckDue r.status text r.text.items)
check_due text (Ok r) h = record { answer = h; own = own_accepted r.status text r.text.items h }
check_due text (Err e) h = tt

-- so is the line of its refusal
pub refused_due : {E : Type 0} (text : List ℕ) (refusal : Refusal) → IsRefusalBy certificate_of text refusal →
    (result : Result Response E) →
    IfOk result (λ (r : Response). (r.status ≡ Refused) × (r.text.items ≡ refusal_line refusal)) →
    IfOk result (λ (r : Response). IsCheckDue r.status text r.text.items)
refused_due text refusal first (Ok r) h =
    let answer : IsAnswer ReadsAsCertificate certificate_of IsJudged r.status text r.text.items =
    inr (record { ended = h.0; refusal = refusal; first = first; wrote = h.1 }) in
    record { answer = answer; own = own_accepted r.status text r.text.items answer }
refused_due text refusal first (Err e) h = tt
