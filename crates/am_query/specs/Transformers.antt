-- Transformers of a problem, the examples that they satisfy, and those that they fail.
use Rattle.std.specs.Prelude.{List}
use Rattle.am_bv.specs.declared.term.Term.{Term}
use Rattle.am_domain.specs.Examples.{Covers, Excludes, IsTrueExample, IsValidExample, SatisfiesExamples}
use Rattle.am_problem.specs.Examples.{IsNegative, IsPositive, negative_of, negatives_of, positive_of, positives_of}
use Rattle.am_problem.specs.Problem.{AreDerivable, Problem, question_of}
use Rattle.am_problem.specs.declared.examples.Negative.{Negative}
use Rattle.am_problem.specs.declared.examples.Positive.{Positive}

-- the terms are a transformer of the problem
abbrev pub IsTransformerOf : Problem → List Term → Type 0
IsTransformerOf p terms = AreDerivable p.rules p.starts p.depth terms

-- the terms satisfy the examples
abbrev pub SuitsExamples : Problem → List Term → List Positive → List Negative → Type 0
SuitsExamples p terms positives negatives =
    SatisfiesExamples (question_of p) terms (positives_of p positives) (negatives_of p negatives)

-- some transformer of the problem satisfies the examples
abbrev pub SomeSuits : Problem → List Positive → List Negative → Type 0
SomeSuits p positives negatives = (terms : List Term) × IsTransformerOf p terms × SuitsExamples p terms positives
    negatives

-- a true example that a transformer doesn't cover
pub record IsUncovered (p : Problem) (t : List Term) (e : Positive) : Type 0 where
  pub stored : IsPositive p e
  pub true : IsTrueExample (question_of p) (positive_of p e)
  pub fails : ¬ Covers (question_of p) t (positive_of p e)

-- a valid negative example that a transformer doesn't satisfy
pub record IsAdmitted (p : Problem) (t : List Term) (e : Negative) : Type 0 where
  pub stored : IsNegative p e
  pub valid : IsValidExample (question_of p) (negative_of p e)
  pub fails : ¬ Excludes (question_of p) t (negative_of p e)
