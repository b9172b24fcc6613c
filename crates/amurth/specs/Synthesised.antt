-- What `synth` writes: the certificate of a synthesis.
use Rattle.std.specs.Prelude.{◌≡◌, ℕ, ◌+◌, ◌*◌, ◌^◌, ◌≤◌, List}
use Rattle.am_cert.specs.Certificate.{Certificate}
use Rattle.am_cert.specs.Printing.{certificate_text}
use Rattle.am_cert.specs.declared.answer.Proofs.TheVariants.{Chains}
use Rattle.am_cert.specs.declared.version.Version.TheVariants.{Two}
use Rattle.am_dual.specs.Synthesis.{AreConflictsSpent, AreTurnsSpent, IsSynthesis, most_inputs}
use Rattle.am_problem.specs.Problem.{Problem}
use Rattle.am_problem.specs.Texts.{ReadsAsProblem, problem_of}
use Rattle.am_query.specs.declared.outcome.Outcome.{Outcome}
use Rattle.am_query.specs.declared.outcome.Outcome.TheVariants.{Absent, Best, Conflicts, Turns}
use Rattle.am_tree.specs.Counts.{tuple_count}
use Rattle.amurth.specs.Answers.{IsAnswer, IsAnsweredBy}
use Rattle.amurth.specs.declared.status.Status.{Status}
use Rattle.amurth.specs.declared.status.Status.TheVariants.{Done, SpentConflicts, SpentTurns}

-- the status of an outcome
abbrev pub status_of : Outcome → Status
status_of (Best t trace sound_log best_log) = Done
status_of (Absent trace log) = Done
status_of (Turns trace) = SpentTurns
status_of (Conflicts trace asked log) = SpentConflicts

-- the certificate of an outcome, whose formulas fold constants
abbrev pub certificate : Problem → Outcome → Certificate
certificate p o = record { version = Two; problem = p; outcome = o; proofs = Chains }

-- how a synthesis ended; with K tuples of trees K * (K + 1) turns are never spent, nor 3 ^ I derived clauses where no
-- circuit has more than I inputs
pub record HasEnded (p : Problem) (status : Status) (outcome : Outcome) : Type 0 where
  pub synthesis : IsSynthesis p outcome
  pub turns : let k = tuple_count p.rules p.starts p.depth in k * (k + 1) ≤ p.turns → ¬ AreTurnsSpent outcome
  pub conflicts : 3 ^ most_inputs p ≤ p.conflicts → ¬ AreConflictsSpent outcome
  pub ended : status ≡ status_of outcome

-- what is due to a problem: the certificate of its synthesis
pub record IsCertified (p : Problem) (status : Status) (written : List ℕ) : Type 0 where
  pub outcome : Outcome
  pub synthesis : HasEnded p status outcome
  pub wrote : written ≡ certificate_text (certificate p outcome)

-- the input is the text of a problem, and what is written is the certificate of its synthesis
abbrev pub IsSynthesised : Status → List ℕ → List ℕ → Type 0
IsSynthesised = IsAnsweredBy ReadsAsProblem IsCertified

-- what `synth` writes for an input, by the status after it
abbrev pub IsSynthDue : Status → List ℕ → List ℕ → Type 0
IsSynthDue = IsAnswer ReadsAsProblem problem_of IsCertified
