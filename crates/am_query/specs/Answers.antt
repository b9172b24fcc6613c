-- What the answers to the queries say.
use Rattle.std.specs.Prelude.{ℕ, ◌≡◌, ◌^◌, ◌<◌, ◌≤◌, true, List, length}
use Rattle.am_bv.specs.declared.term.Term.{Term}
use Rattle.am_lit.specs.Clause.{IsFormula}
use Rattle.am_chain.specs.declared.chain.Chain.{Chain}
use Rattle.am_chain.specs.Replay.{Refutes}
use Rattle.am_domain.specs.Question.{IsSound}
use Rattle.am_domain.specs.Examples.{NoneIsCloser, NoneSatisfies}
use Rattle.am_problem.specs.Examples.{negatives_of, positives_of}
use Rattle.am_problem.specs.Problem.{Problem, question_of}
use Rattle.am_problem.specs.declared.examples.Negative.{Negative}
use Rattle.am_problem.specs.declared.examples.Positive.{Positive}
use Rattle.am_solve.specs.Answers.{ChainsAreShort, IsProgress}
use Rattle.am_query.specs.Formulas.{query_circuit}
use Rattle.am_query.specs.Transformers.{IsTransformerOf, IsUncovered, SuitsExamples}
use Rattle.am_query.specs.Witnesses.{IsCloser}
use Rattle.am_query.specs.declared.answers.Closer.{Closer}
use Rattle.am_query.specs.declared.answers.QueryAnswer.{QueryAnswer}
use Rattle.am_query.specs.declared.answers.QueryAnswer.TheVariants.{Found, Refuted, Spent}
use Rattle.am_query.specs.declared.query.Query.{Query}
use Rattle.am_query.specs.declared.query.Query.TheVariants.{Fit, Precise, Sound}

-- the clauses of the query's formula are normal, numbers of 31 bits name them, and it has fewer than 2^30 variables
pub record IsNumberedQuery (p : Problem) (q : Query) : Type 0 where
  pub normal : IsFormula (query_circuit true p q).clauses (query_circuit true p q).vars
  pub few_clauses : length (query_circuit true p q).clauses < 2 ^ 31
  pub few_vars : (query_circuit true p q).vars < 2 ^ 30

-- a log refutes the query's formula, with at most so many chains
pub record IsRefuted (p : Problem) (q : Query) (limit : ℕ) (log : List Chain) : Type 0 where
  pub refutes : Refutes (query_circuit true p q).clauses log
  pub few : length log ≤ limit
  pub short : ChainsAreShort (query_circuit true p q).vars log
  pub numbered : IsNumberedQuery p q

-- a log has exactly so many valid chains over the query's formula, whose clauses are new
pub record IsSpentOn (p : Problem) (q : Query) (limit : ℕ) (log : List Chain) : Type 0 where
  pub many : length log ≡ limit
  pub progress : IsProgress (query_circuit true p q).clauses (query_circuit true p q).vars log
  pub short : ChainsAreShort (query_circuit true p q).vars log
  pub numbered : IsNumberedQuery p q

-- the limit was reached
abbrev pub IsSpentQuery : {W : Type 0} → QueryAnswer W → Type 0
IsSpentQuery (Found w) = ⊥
IsSpentQuery (Refuted log) = ⊥
IsSpentQuery (Spent log) = Unit {0}

-- what was sought is found, and this is one; or there is none; or the limit was reached
abbrev pub IsAnswerTo : {W : Type 0} → Problem → Query → ℕ → (W → Type 0) → Type 0 → QueryAnswer W → Type 0
IsAnswerTo p q limit IsOne ThereIsNone (Found w) = IsOne w
IsAnswerTo p q limit IsOne ThereIsNone (Refuted log) = ThereIsNone × IsRefuted p q limit log
IsAnswerTo p q limit IsOne ThereIsNone (Spent log) = IsSpentOn p q limit log

-- a transformer that satisfies the examples
abbrev pub IsFitAnswer : Problem → List Positive → List Negative → ℕ → QueryAnswer (List Term) → Type 0
IsFitAnswer p positives negatives limit = IsAnswerTo p (Fit positives negatives) limit
    (λ t. IsTransformerOf p t × SuitsExamples p t positives negatives)
    (NoneSatisfies (question_of p) (positives_of p positives) (negatives_of p negatives))

-- a true example that the transformer doesn't cover, or it is sound
abbrev pub IsSoundAnswer : Problem → List Term → ℕ → QueryAnswer Positive → Type 0
IsSoundAnswer p t limit = IsAnswerTo p (Sound t) limit (IsUncovered p t) (IsSound (question_of p) t)

-- a transformer that satisfies the examples, and a word that it excludes and the given one admits
abbrev pub IsPreciseAnswer : Problem → List Term → List Positive → List Negative → ℕ → QueryAnswer Closer → Type 0
IsPreciseAnswer p t positives negatives limit = IsAnswerTo p (Precise t positives negatives) limit
    (λ c. IsCloser p t positives negatives c.term c.example)
    (NoneIsCloser (question_of p) t (positives_of p positives) (negatives_of p negatives))
