-- What `translate` writes: an accepted certificate with hints in place of its chains, or why it isn't accepted.
use Rattle.std.specs.Prelude.{◌≡◌, ℕ, ◌⊎◌, List}
use Rattle.am_cert.specs.Certificate.{Certificate}
use Rattle.am_cert.specs.Printing.{certificate_text}
use Rattle.am_cert.specs.Texts.{ReadsAsCertificate, certificate_of}
use Rattle.am_cert.specs.Translating.{IsTranslation}
use Rattle.amurth.specs.Answers.{IsAnswer}
use Rattle.amurth.specs.Checked.{IsFaulty, IsProved}
use Rattle.amurth.specs.declared.status.Status.{Status}
use Rattle.amurth.specs.declared.status.Status.TheVariants.{Done}

-- what was written is the canonical text of an accepted certificate with the same problem, answer, terms and turns,
-- whose refutations are hints; and that certificate is read from it
pub record IsHintedText (c : Certificate) (written : List ℕ) : Type 0 where
  pub hinted : Certificate
  pub same : IsTranslation c hinted
  pub wrote : written ≡ certificate_text hinted
  pub reads : ReadsAsCertificate written hinted

-- the certificate is accepted and right, and it is written with hints
pub record IsRestated (c : Certificate) (status : Status) (written : List ℕ) : Type 0 where
  pub ended : status ≡ Done
  pub proved : IsProved c
  pub text : IsHintedText c written

-- what is due to a certificate
abbrev pub IsTranslated : Certificate → Status → List ℕ → Type 0
IsTranslated c status written = IsRestated c status written ⊎ IsFaulty c status written

-- what `translate` writes for an input, by the status after it
abbrev pub IsTranslateDue : Status → List ℕ → List ℕ → Type 0
IsTranslateDue = IsAnswer ReadsAsCertificate certificate_of IsTranslated
