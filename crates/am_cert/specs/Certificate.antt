-- What a certificate holds, and which certificates can be written.
use Rattle.std.specs.Prelude.{◌<◌, ◌^◌, ◌≡◌, ℕ, false, true, List, [], All, length}
use Rattle.am_chain.specs.declared.chain.Chain.{Chain}
use Rattle.am_hint.specs.declared.hint.Hint.{Hint}
use Rattle.am_problem.specs.Limits.{IsProblem}
use Rattle.am_problem.specs.Problem.{Problem}
use Rattle.am_problem.specs.Texts.{named}
use Rattle.am_query.specs.declared.outcome.Outcome.{Outcome}
use Rattle.am_query.specs.declared.outcome.Outcome.TheVariants.{Absent, Best, Conflicts, Turns}
use Rattle.am_cert.specs.Grammar.{outcome, shape_of}
use Rattle.am_cert.specs.Versions.{has_hints}
use Rattle.am_cert.specs.declared.answer.Answer.{Answer}
use Rattle.am_cert.specs.declared.answer.Proofs.{Proofs}
use Rattle.am_cert.specs.declared.answer.Proofs.TheVariants.{Chains, Hinted}
use Rattle.am_cert.specs.declared.version.Version.{Version}

-- a problem, how its synthesis ended, what shows it, and the form of its formulas
pub record Certificate : Type 0 where
  pub version : Version
  pub problem : Problem
  pub outcome : Outcome
  pub proofs : Proofs

-- what stands after the problem
abbrev pub answer_of : Certificate → Answer
answer_of c = record { outcome = c.outcome; proofs = c.proofs }

-- ---- logs

-- a log of fewer than 2^30 chains, each of fewer than 2^30 steps
pub record IsBounded (log : List Chain) : Type 0 where
  pub chains : length log < 2 ^ 30
  pub steps : All (λ chain. length chain.steps < 2 ^ 30) log

-- the logs of an outcome aren't too long
abbrev pub AreBounded : Outcome → Type 0
AreBounded (Best t trace sound_log best_log) = IsBounded sound_log × IsBounded best_log
AreBounded (Absent trace log) = IsBounded log
AreBounded (Turns trace) = Unit {0}
AreBounded (Conflicts trace asked log) = IsBounded log

-- ---- hints

-- fewer than 2^31 numbers of 32 bits
pub record AreCertificateNumbers (numbers : List ℕ) : Type 0 where
  pub few : length numbers < 2 ^ 31
  pub small : All (λ n. n < 2 ^ 32) numbers

-- a hint whose codes and places are such numbers
pub record IsHint (hint : Hint) : Type 0 where
  pub codes : AreCertificateNumbers hint.clause
  pub places : AreCertificateNumbers hint.by

-- fewer than 2^30 hints
pub record AreHints (hints : List Hint) : Type 0 where
  pub few : length hints < 2 ^ 30
  pub each : All IsHint hints

-- hints stand in place of the logs: two lists for a best transformer, and one where none is sound
abbrev pub AreHintsOf : Outcome → List Hint → List Hint → Type 0
AreHintsOf (Best t trace [] []) first second = AreHints first × AreHints second
AreHintsOf (Absent trace []) first [] = AreHints first
AreHintsOf outcome first second = ⊥

-- chains in versions 1 and 2, and hints in place of the logs in versions 3 and 4
abbrev pub AreProofsOf : Version → Outcome → Proofs → Type 0
AreProofsOf version outcome Chains = has_hints version ≡ false
AreProofsOf version outcome (Hinted first second) = (has_hints version ≡ true) × AreHintsOf outcome first second

-- ---- the whole

-- a problem within all limits, an outcome that can be written after it, logs that aren't too long, and the proofs that
-- the version has
pub record IsCertificate (c : Certificate) : Type 0 where
  pub problem : IsProblem c.problem
  pub outcome : (outcome (shape_of (named c.problem))).Good c.outcome
  pub bounded : AreBounded c.outcome
  pub proofs : AreProofsOf c.version c.outcome c.proofs
