-- When a certificate is accepted, and what its acceptance says.
use Rattle.std.specs.Prelude.{◌≡◌, ℕ, ◌^◌, ◌≤◌, ◌<◌, Bool, List, length, Result, Ok, Err, ◌⊎◌}
use Rattle.am_query.specs.Acceptance.{Test, acceptance, hinted_acceptance}
use Rattle.am_query.specs.AcceptanceLaws.{IsRight}
use Rattle.am_problem.specs.Problem.{Problem}
use Rattle.am_query.specs.declared.fault.Fault.{Fault}
use Rattle.am_query.specs.declared.outcome.Outcome.{Outcome}
use Rattle.am_query.specs.declared.outcome.Outcome.TheVariants.{Absent, Best, Conflicts, Turns}
use Rattle.am_syntax.specs.declared.refusal.Refusal.{Refusal}
use Rattle.am_syntax.specs.declared.refusal.Refusal.TheVariants.{Long}
use Rattle.am_cert.specs.Certificate.{Certificate}
use Rattle.am_cert.specs.Texts.{ReadsAsCertificate, certificate_of}
use Rattle.am_cert.specs.Versions.{folds}
use Rattle.am_cert.specs.declared.answer.Proofs.{Proofs}
use Rattle.am_cert.specs.declared.answer.Proofs.TheVariants.{Chains, Hinted}
use Rattle.am_cert.specs.declared.checking.CheckFail.{CheckFail}
use Rattle.am_cert.specs.declared.checking.CheckFail.TheVariants.{NoMemory, Rejected}
use Rattle.am_cert.specs.declared.feed.FeedEnd.{FeedEnd}
use Rattle.am_cert.specs.declared.feed.FeedEnd.TheVariants as feed
use Rattle.am_cert.specs.declared.feed.FeedEnd.TheVariants.{Refused}

-- the test of an outcome over formulas of a form, by its logs or by hints
abbrev pub acceptance_with : Bool → Problem → Outcome → Proofs → Test
acceptance_with folding p o Chains = acceptance folding p o
acceptance_with folding p o (Hinted first second) = hinted_acceptance folding p o first second

-- the test of a certificate, over the formulas of its version
abbrev pub acceptance_of : Certificate → Test
acceptance_of c = acceptance_with (folds c.version) c.problem c.outcome c.proofs

-- the certificate is accepted
abbrev pub IsAcceptable : Certificate → Type 0
IsAcceptable c = (acceptance_of c).Passes

-- the certificate's first fault
abbrev pub HasFault : Certificate → Fault → Type 0
HasFault c f = (acceptance_of c).Fails f

-- a failure of a check is the certificate's first fault, or want of memory
abbrev pub IsFailureOf : Certificate → CheckFail → Type 0
IsFailureOf c (Rejected f) = HasFault c f
IsFailureOf c NoMemory = Unit {0}

-- the synthesis didn't end: its turns or its conflicts were spent
abbrev pub IsUnfinished : Outcome → Type 0
IsUnfinished (Best terms trace sound_log best_log) = ⊥
IsUnfinished (Absent trace log) = ⊥
IsUnfinished (Turns trace) = Unit {0}
IsUnfinished (Conflicts trace asked log) = Unit {0}

-- ---- whole texts

-- the text is longer than any input may be, or is no certificate's, and this is its first refusal
abbrev pub IsRefusalOf : List ℕ → Refusal → Type 0
IsRefusalOf text r =
    ((2 ^ 26 < length text) × (r ≡ Long)) ⊎ ((length text ≤ 2 ^ 26) × (certificate_of text ≡ Err r))

-- a text that isn't too long is this certificate's
pub record IsInputOf (text : List ℕ) (c : Certificate) : Type 0 where
  pub short : length text ≤ 2 ^ 26
  pub reads : ReadsAsCertificate text c

-- the text is an accepted certificate's, whose outcome is right; or it is refused; or its certificate has this first
-- fault
abbrev pub IsVerdict : List ℕ → Result (Unit {0}) FeedEnd → Type 0
IsVerdict text (Ok u) =
    (c : Certificate) × IsInputOf text c × IsAcceptable c × IsRight c.problem c.outcome
IsVerdict text (Err (Refused r)) = IsRefusalOf text r
IsVerdict text (Err (feed.Rejected f)) = (c : Certificate) × IsInputOf text c × HasFault c f
IsVerdict text (Err feed.NoMemory) = Unit {0}

-- a text of an accepted certificate gets no verdict but that it is accepted, where memory suffices
abbrev pub AcceptedTextsPass : Type 0
AcceptedTextsPass = (text : List ℕ) (c : Certificate) → IsInputOf text c → IsAcceptable c →
    (verdict : Result (Unit {0}) FeedEnd) → IsVerdict text verdict → (verdict ≡ Ok tt) ⊎ (verdict ≡ Err feed.NoMemory)
