-- What `check` writes: that a certificate is accepted, or why it isn't.
use Rattle.std.specs.Prelude.{◌≡◌, ℕ, ◌^◌, ◌≤◌, ◌⊎◌, List, [], ◌∷◌, codes, length}
use Rattle.am_cert.specs.Certificate.{Certificate}
use Rattle.am_cert.specs.Checking.{HasFault, IsAcceptable}
use Rattle.am_cert.specs.Texts.{ReadsAsCertificate, certificate_of}
use Rattle.am_query.specs.AcceptanceLaws.{IsRight}
use Rattle.am_query.specs.declared.fault.Fault.{Fault}
use Rattle.am_syntax.specs.Canonical.{line}
use Rattle.amurth.specs.Answers.{IsAnswer}
use Rattle.amurth.specs.Lines.{fault_line}
use Rattle.amurth.specs.Synthesised.{IsSynthesised}
use Rattle.amurth.specs.declared.status.Status.{Status}
use Rattle.amurth.specs.declared.status.Status.TheVariants.{Done, Rejected}

-- the line of a certificate that is accepted
abbrev pub accepted_text : List ℕ
accepted_text = line (codes "accepted" ∷ [])

-- the certificate is accepted, and right: its transformer is best, or none is sound
pub record IsProved (c : Certificate) : Type 0 where
  pub accepted : IsAcceptable c
  pub right : IsRight c.problem c.outcome

-- the certificate is accepted and right, and that it is accepted is written
pub record IsPassed (c : Certificate) (status : Status) (written : List ℕ) : Type 0 where
  pub ended : status ≡ Done
  pub proved : IsProved c
  pub wrote : written ≡ accepted_text

-- the certificate isn't accepted, and its first fault is written
pub record IsFaulty (c : Certificate) (status : Status) (written : List ℕ) : Type 0 where
  pub ended : status ≡ Rejected
  pub fault : Fault
  pub has : HasFault c fault
  pub wrote : written ≡ fault_line [] fault

-- what is due to a certificate
abbrev pub IsJudged : Certificate → Status → List ℕ → Type 0
IsJudged c status written = IsPassed c status written ⊎ IsFaulty c status written

-- what `check` writes for an input, by the status after it; what `synth` wrote as done, and isn't too long, is
-- accepted
pub record IsCheckDue (status : Status) (input written : List ℕ) : Type 0 where
  pub answer : IsAnswer ReadsAsCertificate certificate_of IsJudged status input written
  pub own : (problem : List ℕ) → IsSynthesised Done problem input → length input ≤ 2 ^ 26 → status ≡ Done
