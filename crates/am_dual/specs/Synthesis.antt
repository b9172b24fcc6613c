-- What the outcome of a synthesis says.
use Rattle.std.specs.Prelude.{ℕ, ◌≡◌, ◌+◌, ◌≤◌, max, true, List, [], length}
use Rattle.am_domain.specs.Question.{IsAbsent, IsBest}
use Rattle.am_problem.specs.Problem.{Problem, question_of}
use Rattle.am_query.specs.Acceptance.{IsAccepted}
use Rattle.am_query.specs.Answers.{IsRefuted, IsSpentOn}
use Rattle.am_query.specs.Queries.{input_count}
use Rattle.am_query.specs.Turns.{IsAsked, IsTrace, after_trace, query_of}
use Rattle.am_query.specs.declared.outcome.Outcome.{Outcome}
use Rattle.am_query.specs.declared.outcome.Outcome.TheVariants.{Absent, Best, Conflicts, Turns}
use Rattle.am_query.specs.declared.query.Query.TheVariants.{Fit, Precise, Sound}
use Rattle.am_query.specs.declared.turn.Turn.{Turn}

-- a valid trace, of at most so many turns
pub record IsTraceWithin (p : Problem) (turns : ℕ) (trace : List Turn) : Type 0 where
  pub valid : IsTrace p trace
  pub few : length trace ≤ turns

-- The transformer is best, or none is sound, and the logs that show it are short; or one turn more was made than may be
-- spent; or as many new clauses were derived as may be spent, for a query that is asked after the turns.
abbrev pub IsSynthesis : Problem → Outcome → Type 0
IsSynthesis p (Best t trace sound_log best_log) =
    IsBest (question_of p) t
    × IsAccepted true p (Best t trace sound_log best_log)
    × IsTraceWithin p p.turns trace
    × IsRefuted p (Sound t) p.conflicts sound_log
    × (let s = after_trace trace in IsRefuted p (Precise t s.positives s.negatives) p.conflicts best_log)
IsSynthesis p (Absent trace log) =
    IsAbsent (question_of p)
    × IsAccepted true p (Absent trace log)
    × IsTraceWithin p p.turns trace
    × IsRefuted p (Fit (after_trace trace).positives []) p.conflicts log
IsSynthesis p (Turns trace) = IsTrace p trace × (length trace ≡ p.turns + 1)
IsSynthesis p (Conflicts trace asked log) =
    IsTraceWithin p p.turns trace
    × IsAsked p trace asked
    × IsSpentOn p (query_of (after_trace trace) asked) p.conflicts log

-- the turns were spent
abbrev pub AreTurnsSpent : Outcome → Type 0
AreTurnsSpent (Best t trace sound_log best_log) = ⊥
AreTurnsSpent (Absent trace log) = ⊥
AreTurnsSpent (Turns trace) = Unit {0}
AreTurnsSpent (Conflicts trace asked log) = ⊥

-- the derived clauses were spent
abbrev pub AreConflictsSpent : Outcome → Type 0
AreConflictsSpent (Best t trace sound_log best_log) = ⊥
AreConflictsSpent (Absent trace log) = ⊥
AreConflictsSpent (Turns trace) = ⊥
AreConflictsSpent (Conflicts trace asked log) = Unit {0}

-- the most inputs that the circuit of a query of the problem has: of soundness, or of precision, which has those of a
-- fit
abbrev pub most_inputs : Problem → ℕ
most_inputs p = max (input_count p (Sound [])) (input_count p (Precise [] [] []))
