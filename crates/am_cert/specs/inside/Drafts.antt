-- What may stand after a problem.
use Rattle.am_problem.specs.Texts.{Draft}
use Rattle.am_cert.specs.Certificate.{AreBounded, AreProofsOf}
use Rattle.am_cert.specs.Grammar.{outcome, shape_of}
use Rattle.am_cert.specs.declared.answer.Answer.{Answer}
use Rattle.am_cert.specs.declared.version.Version.{Version}

-- the outcome can be written after the problem, its logs aren't too long, and the proofs are those of the version
pub record CanFollow (v : Version) (d : Draft) (a : Answer) : Type 0 where
  pub outcome : (outcome (shape_of d.lines)).Good a.outcome
  pub bounded : AreBounded a.outcome
  pub proofs : AreProofsOf v a.outcome a.proofs
