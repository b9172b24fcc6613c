-- A synthesis between two turns, and what one turn leads to.
use Rattle.std.specs.Prelude.{ℕ, ◌≡◌, ◌+◌, ◌-◌, ◌^◌, ◌≤◌, ◌⊎◌, List, [], ◌∷◌, ◌++◌, length}
use Rattle.am_chain.specs.declared.chain.Chain.{Chain}
use Rattle.am_domain.specs.Examples.{NoneSatisfies}
use Rattle.am_problem.specs.Examples.{positives_of}
use Rattle.am_problem.specs.Problem.{Problem, question_of}
use Rattle.am_query.specs.Answers.{IsRefuted}
use Rattle.am_query.specs.Turns.{IsCandidate, after_trace}
use Rattle.am_query.specs.declared.outcome.Outcome.{Outcome}
use Rattle.am_query.specs.declared.outcome.Outcome.TheVariants.{Absent, Best, Conflicts, Turns}
use Rattle.am_query.specs.declared.query.Query.TheVariants.{Fit}
use Rattle.am_query.specs.declared.turn.Turn.{Turn}
use Rattle.am_dual.specs.Synthesis.{AreConflictsSpent, IsSynthesis, IsTraceWithin, most_inputs}
use Rattle.am_dual.specs.declared.turns.Next.{Next}
use Rattle.am_dual.specs.declared.turns.Next.TheVariants.{End, Turn as NextTurn}
use Rattle.am_dual.specs.declared.turns.Synthesis.{Synthesis}

-- a valid trace of at most so many turns, the examples after it, and a transformer that satisfies them
pub record IsUnderway (p : Problem) (turns : ℕ) (s : Synthesis) : Type 0 where
  pub within : IsTraceWithin p turns s.trace
  pub state : s.state ≡ after_trace s.trace
  pub candidate : IsCandidate p s.state s.term

-- a valid trace of at most so many turns, after which no transformer satisfies the positive examples, as the log shows
pub record NothingSuits (p : Problem) (turns : ℕ) (trace : List Turn) (log : List Chain) : Type 0 where
  pub within : IsTraceWithin p turns trace
  pub nothing : NoneSatisfies (question_of p) (positives_of p (after_trace trace).positives) []
  pub refuted : IsRefuted p (Fit (after_trace trace).positives []) p.conflicts log

-- a right outcome, where the derived clauses aren't spent if enough are allowed
pub record IsEnd (p : Problem) (o : Outcome) : Type 0 where
  pub right : IsSynthesis p o
  pub enough : 3 ^ most_inputs p ≤ p.conflicts → ¬ AreConflictsSpent o

-- the turns of an outcome
abbrev pub trace_of : Outcome → List Turn
trace_of (Best t trace sound_log best_log) = trace
trace_of (Absent trace log) = trace
trace_of (Turns trace) = trace
trace_of (Conflicts trace asked log) = trace

-- the turns that were made
abbrev pub trace_so_far : Next → List Turn
trace_so_far (NextTurn s) = s.trace
trace_so_far (End o) = trace_of o

-- one list of turns is the other, with more after it
abbrev pub GoesOn : List Turn → List Turn → Type 0
GoesOn before after = (more : List Turn) × (after ≡ before ++ more)

-- there may be another turn, or this is the end
abbrev pub IsRightNext : Problem → Next → Type 0
IsRightNext p (NextTurn s) = IsUnderway p p.turns s
IsRightNext p (End o) = IsEnd p o

-- a synthesis that has made no turn
pub record IsBegun (p : Problem) (next : Next) : Type 0 where
  pub right : IsRightNext p next
  pub none : trace_so_far next ≡ []

-- After these turns there is one more, and there may be another; or this is the end, with these turns or one more.
abbrev pub IsNextTurn : Problem → List Turn → Next → Type 0
IsNextTurn p trace (NextTurn s) = IsUnderway p p.turns s × ((t : Turn) × (s.trace ≡ trace ++ t ∷ []))
IsNextTurn p trace (End o) = IsEnd p o × ((trace_of o ≡ trace) ⊎ ((t : Turn) × (trace_of o ≡ trace ++ t ∷ [])))

-- how many turns there may still be, with the one that shows that they are spent
abbrev pub turns_left : Problem → Next → ℕ
turns_left p (NextTurn s) = p.turns + 1 - length s.trace
turns_left p (End o) = 0
