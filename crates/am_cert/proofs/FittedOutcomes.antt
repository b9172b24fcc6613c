-- What an outcome that can be written has: a term for each start, and examples of the problem.
use Rattle.std.proofs.Common.{Bool, List, ◌∙◌, sym}
use Rattle.am_bv.specs.declared.term.Term.{Term}
use Rattle.am_chain.specs.declared.chain.Chain.{Chain}
use Rattle.am_problem.specs.Limits.{IsFormed, IsProblem}
use Rattle.am_problem.specs.Problem.{Problem}
use Rattle.am_problem.specs.Texts.{named}
use Rattle.am_query.proofs.Laws.{accepted_is_right, accepted_with_hints_is_right}
use Rattle.am_query.specs.AcceptanceLaws.{FitsInto, IsRight}
use Rattle.am_query.specs.declared.outcome.Outcome.{Outcome}
use Rattle.am_query.specs.declared.outcome.Outcome.TheVariants.{Absent, Best, Conflicts, Turns}
use Rattle.am_query.specs.declared.turn.Turn.{Turn}
use Rattle.am_cert.specs.Certificate.{Certificate, IsCertificate}
use Rattle.am_cert.specs.Checking.{IsAcceptable, acceptance_with}
use Rattle.am_cert.specs.Grammar.{best, none, outcome, shape_of}
use Rattle.am_cert.specs.Versions.{folds}
use Rattle.am_cert.specs.declared.answer.Proofs.{Proofs}
use Rattle.am_cert.specs.declared.answer.Proofs.TheVariants.{Chains, Hinted}
use Rattle.am_cert.specs.inside.Verdicts.{AreCounted, AreStoredAfter}
use Rattle.am_cert.proofs.Stored.{stored_after}

module _ (p : Problem) (is : IsProblem p) where
  -- the outcome can be written after the problem
  abbrev pub CanBeWritten : Outcome → Type 0
  CanBeWritten o = (outcome (shape_of (named p))).Good o

  -- an answer that is best has a term for each start
  pub best_counted : (t : List Term) (trace : List Turn) (sound_log best_log : List Chain) →
      CanBeWritten (Best t trace sound_log best_log) → AreCounted p t
  unfolding outcome best
  best_counted t trace sound_log best_log good = good.0.0 ∙ sym is.formed.start_per_field

  -- the examples of an answer that is best can be stored
  pub best_stored : (t : List Term) (trace : List Turn) (sound_log best_log : List Chain) →
      CanBeWritten (Best t trace sound_log best_log) → AreStoredAfter p trace
  unfolding outcome best
  best_stored t trace sound_log best_log good = stored_after p trace good.1.0

  -- the examples of an answer that none is sound can be stored
  pub absent_stored : (trace : List Turn) (log : List Chain) → CanBeWritten (Absent trace log) → AreStoredAfter p trace
  unfolding outcome none
  absent_stored trace log good = stored_after p trace good.0

  fits : (o : Outcome) → CanBeWritten o → FitsInto p o
  fits (Best t trace sound_log best_log) good =
      let stored = best_stored t trace sound_log best_log good in
      record { positives = stored.positives; negatives = stored.negatives }
  fits (Absent trace log) good =
      let stored = absent_stored trace log good in
      record { positives = stored.positives; negatives = stored.negatives }
  fits (Turns trace) good = tt
  fits (Conflicts trace asked log) good = tt

right_with : (folding : Bool) (p : Problem) → IsFormed p → (o : Outcome) → FitsInto p o → (proofs : Proofs) →
    (acceptance_with folding p o proofs).Passes → IsRight p o
right_with folding p formed o fits Chains passes = accepted_is_right folding p formed o fits passes
right_with folding p formed o fits (Hinted first second) passes =
    accepted_with_hints_is_right folding p formed o fits first second passes

-- an accepted certificate's outcome is right
pub acceptable_is_right : (c : Certificate) → IsCertificate c → IsAcceptable c → IsRight c.problem c.outcome
acceptable_is_right c is accepted =
    right_with (folds c.version) c.problem is.problem.formed c.outcome
    (fits c.problem is.problem c.outcome is.outcome) c.proofs accepted
