-- Hints in place of the chains of a certificate.
use Rattle.std.specs.Prelude.{◌<◌, ◌^◌, List, All}
use Rattle.am_hint.specs.declared.hint.Hint.{Hint}
use Rattle.am_cert.specs.Certificate.{AreProofsOf, Certificate}
use Rattle.am_cert.specs.Checking.{acceptance_with}
use Rattle.am_cert.specs.Translating.{without_logs}
use Rattle.am_cert.specs.Versions.{folds, with_hints}
use Rattle.am_cert.specs.declared.answer.Proofs.{Proofs}

-- with these proofs the certificate's outcome is accepted, and they are those of its version with hints
pub record AreProofsFor (c : Certificate) (proofs : Proofs) : Type 0 where
  pub accepted : (acceptance_with (folds c.version) c.problem c.outcome proofs).Passes
  pub fit : AreProofsOf (with_hints c.version) (without_logs c.outcome) proofs

-- the codes and the places of a hint are numbers of 32 bits
pub record HasSmallNumbers (hint : Hint) : Type 0 where
  pub codes : All (λ n. n < 2 ^ 32) hint.clause
  pub places : All (λ n. n < 2 ^ 32) hint.by

-- so are those of all hints
abbrev pub HaveSmallNumbers : List Hint → Type 0
HaveSmallNumbers hints = All HasSmallNumbers hints
