-- Verdicts of tests in order.
use Rattle.std.specs.Prelude.{◌≡◌, ◌≤◌, ℕ, Bool, List, length, Result, Ok, Err, IfErr, OnOk}
use Rattle.std.proofs.Common.{inl, inr, ap, subst, sym, ◌∙◌}
use Rattle.am_bv.specs.declared.term.Term.{Term}
use Rattle.am_problem.specs.Problem.{Problem}
use Rattle.am_problem.specs.Texts.{IfRefused}
use Rattle.am_query.specs.Acceptance.{Test, ◌before◌, acceptance_by, first_log, negatives_true, positives_true}
use Rattle.am_query.specs.Acceptance.{second_log, terms_inside}
use Rattle.am_query.specs.declared.outcome.Outcome.{Outcome}
use Rattle.am_query.specs.declared.state.State.{State}
use Rattle.am_query.specs.AcceptanceLaws.{IsRight}
use Rattle.am_cert.specs.Certificate.{Certificate, IsCertificate}
use Rattle.am_cert.specs.Versions.{folds}
use Rattle.am_cert.specs.declared.answer.Proofs.{Proofs}
use Rattle.am_cert.specs.declared.answer.Proofs.TheVariants.{Chains, Hinted}
use Rattle.am_syntax.specs.declared.refusal.ReadError.{ReadError}
use Rattle.am_syntax.specs.declared.refusal.ReadError.TheVariants as read
use Rattle.am_cert.specs.Checking.{IsAcceptable, IsFailureOf, IsInputOf, IsVerdict, acceptance_of, acceptance_with}
use Rattle.am_cert.specs.Texts.{certificate_of}
use Rattle.am_cert.specs.declared.checking.CheckFail.{CheckFail}
use Rattle.am_cert.specs.declared.checking.CheckFail.TheVariants.{NoMemory, Rejected}
use Rattle.am_cert.specs.declared.limits.TheConstants.{MOST_BYTES}
use Rattle.am_cert.specs.inside.Ends.{unaccepted, unread}
use Rattle.am_cert.specs.inside.Verdicts.{IsVerdictOf, acceptance_but, first_refuted, second_refuted}
use Rattle.am_cert.proofs.FittedOutcomes.{acceptable_is_right}

failed_first : (a b : Test) (fail : CheckFail) → IsVerdictOf a (Err fail) → IsVerdictOf (a before b) (Err fail)
failed_first a b (Rejected f) h = inl h
failed_first a b NoMemory h = tt

-- where the first of two tests isn't passed, that is the verdict of both
pub first_failed : (a b : Test) (r : Result (Unit {0}) CheckFail) (fail x : CheckFail) → r ≡ Err x → x ≡ fail →
    IsVerdictOf a (Err fail) → IsVerdictOf (a before b) r
first_failed a b r fail x is same h =
    let is_fail : r ≡ Err fail = is ∙ ap (λ (y : CheckFail). Err y) same in
    subst (IsVerdictOf (a before b)) (sym is_fail) (failed_first a b fail h)

-- where it is passed, the verdict is the second's
pub first_passed : (a b : Test) (r : Result (Unit {0}) CheckFail) → a.Passes → IsVerdictOf b r →
    IsVerdictOf (a before b) r
first_passed a b (Ok u) passes h = (passes, h)
first_passed a b (Err (Rejected f)) passes h = inr (passes, h)
first_passed a b (Err NoMemory) passes h = tt

-- ---- of the examples after a trace, and of the same problem

module _ (q p : Problem) (same : q ≡ p) where
  -- a verdict on the terms is one on them for the same problem
  pub terms_here : (t : List Term) (r : Result (Unit {0}) CheckFail) → IsVerdictOf (terms_inside q t) r →
      IsVerdictOf (terms_inside p t) r
  terms_here t r h = subst (λ (p : Problem). IsVerdictOf (terms_inside p t) r) same h

  module _ (s e : State) (after : s ≡ e) where
    -- a verdict on positive examples is one on the same examples of the same problem
    pub positives_here : (r : Result (Unit {0}) CheckFail) → IsVerdictOf (positives_true q s.positives) r →
        IsVerdictOf (positives_true p e.positives) r
    positives_here r h =
        let there = subst (λ (p : Problem). IsVerdictOf (positives_true p s.positives) r) same h in
        subst (λ (s : State). IsVerdictOf (positives_true p s.positives) r) after there

    -- a verdict on negative examples is one on the same examples of the same problem
    pub negatives_here : (t : List Term) (r : Result (Unit {0}) CheckFail) →
        IsVerdictOf (negatives_true q t s.negatives) r → IsVerdictOf (negatives_true p t e.negatives) r
    negatives_here t r h =
        let there = subst (λ (p : Problem). IsVerdictOf (negatives_true p t s.negatives) r) same h in
        subst (λ (s : State). IsVerdictOf (negatives_true p t s.negatives) r) after there

    -- where the terms and the positive examples pass, the verdict is that of the tests after them
    pub after_positives : (t : List Term) (rest : Test) (r : Result (Unit {0}) CheckFail) →
        (terms_inside q t).Passes → (positives_true q s.positives).Passes → IsVerdictOf rest r →
        IsVerdictOf (terms_inside p t before positives_true p e.positives before rest) r
    after_positives t rest r inside positives h =
        first_passed _ _ r (terms_here t (Ok tt) inside) (first_passed _ _ r (positives_here (Ok tt) positives) h)

    -- where the negative examples pass too, it is that of the tests after those
    pub after_examples : (t : List Term) (rest : Test) (r : Result (Unit {0}) CheckFail) →
        (terms_inside q t).Passes → (positives_true q s.positives).Passes → (negatives_true q t s.negatives).Passes →
        IsVerdictOf rest r →
        IsVerdictOf (terms_inside p t before positives_true p e.positives before negatives_true p t e.negatives
        before rest) r
    after_examples t rest r inside positives negatives h =
        after_positives t (negatives_true p t e.negatives before rest) r inside positives
        (first_passed _ _ r (negatives_here t (Ok tt) negatives) h)

-- ---- of a certificate

-- the verdict by a certificate's own logs and proofs is the certificate's
by_proofs : (folding : Bool) (p : Problem) (o : Outcome) (proofs : Proofs) (r : Result (Unit {0}) CheckFail) →
    IsVerdictOf (acceptance_by folding p o
    (λ net. first_refuted proofs (first_log o) net.vars net.clauses)
    (λ net. second_refuted proofs (second_log o) net.vars net.clauses)) r →
    IsVerdictOf (acceptance_with folding p o proofs) r
by_proofs folding p o Chains r h = h
by_proofs folding p o (Hinted first second) r h = h

-- the verdict on the certificate's own outcome is that on the certificate
pub own_verdict : (c : Certificate) (o : Outcome) → o ≡ c.outcome → (r : Result (Unit {0}) CheckFail) →
    IsVerdictOf (acceptance_but c o (first_log o) (second_log o)) r → IsVerdictOf (acceptance_of c) r
own_verdict c o same r h =
    by_proofs (folds c.version) c.problem c.outcome c.proofs r
    (subst (λ (o : Outcome). IsVerdictOf (acceptance_but c o (first_log o) (second_log o)) r) same h)

-- a certificate whose test passes is acceptable
pub accepted_verdict : (c : Certificate) (r : Result (Unit {0}) CheckFail) →
    IsVerdictOf (acceptance_of c) r → OnOk r (IsAcceptable c)
accepted_verdict c (Ok u) h = h
accepted_verdict c (Err fail) h = tt

-- a certificate whose test passes is right
pub right_verdict : (c : Certificate) → IsCertificate c → (r : Result (Unit {0}) CheckFail) →
    IsVerdictOf (acceptance_of c) r → OnOk r (IsRight c.problem c.outcome)
right_verdict c is (Ok u) h = acceptable_is_right c is h
right_verdict c is (Err fail) h = tt

-- the fault of a certificate's test is its failure
pub rejected_verdict : (c : Certificate) (r : Result (Unit {0}) CheckFail) →
    IsVerdictOf (acceptance_of c) r → IfErr r (IsFailureOf c)
rejected_verdict c (Ok u) h = tt
rejected_verdict c (Err (Rejected f)) h = h
rejected_verdict c (Err NoMemory) h = tt

-- ---- of a whole text

-- a text that isn't read is refused, or there was no memory
pub unread_verdict : (text : List ℕ) (e : ReadError) → length text ≤ MOST_BYTES →
    IfRefused e (λ r. certificate_of text ≡ Err r) → IsVerdict text (Err (unread e))
unread_verdict text (read.Refused r) short first = inr (short, first)
unread_verdict text read.NoMemory short first = tt

-- a certificate that isn't accepted has a first fault, or there was no memory
pub unaccepted_verdict : (text : List ℕ) (c : Certificate) (fail : CheckFail) → IsInputOf text c →
    IsFailureOf c fail → IsVerdict text (Err (unaccepted fail))
unaccepted_verdict text c (Rejected f) is fault = (c, is, fault)
unaccepted_verdict text c NoMemory is fault = tt
