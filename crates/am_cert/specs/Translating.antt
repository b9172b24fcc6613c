-- The certificate with hints of one with chains.
use Rattle.std.specs.Prelude.{◌≡◌, true, []}
use Rattle.am_query.specs.declared.outcome.Outcome.{Outcome}
use Rattle.am_query.specs.declared.outcome.Outcome.TheVariants.{Absent, Best, Conflicts, Turns}
use Rattle.am_cert.specs.Certificate.{Certificate}
use Rattle.am_cert.specs.Checking.{IsAcceptable}
use Rattle.am_cert.specs.Versions.{has_hints, with_hints}

-- the same outcome, whose logs are empty
abbrev pub without_logs : Outcome → Outcome
without_logs (Best t trace sound_log best_log) = Best t trace [] []
without_logs (Absent trace log) = Absent trace []
without_logs (Turns trace) = Turns trace
without_logs (Conflicts trace asked log) = Conflicts trace asked []

-- an accepted certificate with hints, of the same problem and the same outcome but for its logs; the certificate itself
-- where it has hints
pub record IsTranslation (c translated : Certificate) : Type 0 where
  pub version : translated.version ≡ with_hints c.version
  pub problem : translated.problem ≡ c.problem
  pub outcome : translated.outcome ≡ without_logs c.outcome
  pub accepted : IsAcceptable translated
  pub own : has_hints c.version ≡ true → translated ≡ c
