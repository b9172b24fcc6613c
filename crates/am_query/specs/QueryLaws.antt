-- Laws of the queries' formulas, in both forms of circuits: what satisfying truth values show, and which are reached.
use Rattle.std.specs.Prelude.{◌≡◌, ℕ, Bool, List, All}
use Rattle.am_bv.specs.declared.term.Term.{Term}
use Rattle.am_lit.specs.Truth.{IsSatisfiable, Satisfies}
use Rattle.am_domain.specs.Examples.{Covers, Excludes, IsTrueExample, IsValidExample, NoneIsCloser, NoneSatisfies}
use Rattle.am_domain.specs.Examples.{Positive as Example, Negative as NegativeExample}
use Rattle.am_domain.specs.Question.{IsSound}
use Rattle.am_problem.specs.Examples.{IsNegative, IsPositive, IsTransformer}
use Rattle.am_problem.specs.Examples.{negative_of, negatives_of, positive_of, positives_of}
use Rattle.am_problem.specs.Limits.{IsFormed}
use Rattle.am_problem.specs.Problem.{Problem, question_of}
use Rattle.am_problem.specs.declared.examples.Negative.{Negative}
use Rattle.am_problem.specs.declared.examples.Positive.{Positive}
use Rattle.am_query.specs.Formulas.{query_circuit}
use Rattle.am_query.specs.Transformers.{IsTransformerOf, IsUncovered, SuitsExamples}
use Rattle.am_query.specs.Witnesses.{IsCloser, chosen_negative, chosen_positive, chosen_terms}
use Rattle.am_query.specs.declared.query.Query.TheVariants.{Fit, Precise, Sound}

-- ---- fits

-- examples of the problem
pub record AreExamples (p : Problem) (positives : List Positive) (negatives : List Negative) : Type 0 where
  pub formed : IsFormed p
  pub positives_stored : All (IsPositive p) positives
  pub negatives_stored : All (IsNegative p) negatives

-- where truth values satisfy the formula of a fit, the terms that they choose are a transformer that satisfies the
-- examples
abbrev pub FitsAreChosen : Type 0
FitsAreChosen = (folding : Bool) (p : Problem) (positives : List Positive) (negatives : List Negative) →
    AreExamples p positives negatives →
    (v : ℕ → Bool) → Satisfies v (query_circuit folding p (Fit positives negatives)).clauses →
    IsTransformerOf p (chosen_terms p v) × SuitsExamples p (chosen_terms p v) positives negatives

-- each transformer that satisfies the examples is chosen by truth values that satisfy the formula of the fit
abbrev pub FitsAreReached : Type 0
FitsAreReached = (folding : Bool) (p : Problem) (positives : List Positive) (negatives : List Negative) →
    AreExamples p positives negatives →
    (terms : List Term) → IsTransformerOf p terms → SuitsExamples p terms positives negatives →
    (v : ℕ → Bool) × Satisfies v (query_circuit folding p (Fit positives negatives)).clauses ×
    (chosen_terms p v ≡ terms)

-- where no truth values satisfy the formula of a fit, no transformer satisfies the examples
abbrev pub UnsatisfiedFitHasNone : Type 0
UnsatisfiedFitHasNone = (folding : Bool) (p : Problem) (positives : List Positive) (negatives : List Negative) →
    AreExamples p positives negatives →
    ¬ IsSatisfiable (query_circuit folding p (Fit positives negatives)).clauses →
    NoneSatisfies (question_of p) (positives_of p positives) (negatives_of p negatives)

-- ---- soundness

-- where truth values satisfy the formula of soundness, the terms fail the true example that they choose
abbrev pub FailedExamplesAreChosen : Type 0
FailedExamplesAreChosen = (folding : Bool) (p : Problem) → IsFormed p → (terms : List Term) → IsTransformer p terms →
    (v : ℕ → Bool) → Satisfies v (query_circuit folding p (Sound terms)).clauses →
    IsUncovered p terms (chosen_positive p v)

-- each true example that the terms fail is chosen by truth values that satisfy the formula of soundness
abbrev pub FailedExamplesAreReached : Type 0
FailedExamplesAreReached = (folding : Bool) (p : Problem) → IsFormed p → (terms : List Term) → IsTransformer p terms →
    (e : Example) → IsTrueExample (question_of p) e → ¬ Covers (question_of p) terms e →
    (v : ℕ → Bool) × Satisfies v (query_circuit folding p (Sound terms)).clauses
    × (positive_of p (chosen_positive p v) ≡ e)

-- where no truth values satisfy the formula of soundness, the terms are sound
abbrev pub UnsatisfiedSoundnessIsSound : Type 0
UnsatisfiedSoundnessIsSound = (folding : Bool) (p : Problem) → IsFormed p →
    (terms : List Term) → IsTransformer p terms →
    ¬ IsSatisfiable (query_circuit folding p (Sound terms)).clauses → IsSound (question_of p) terms

-- ---- precision

-- terms and examples of the problem
pub record IsComparison (p : Problem) (terms : List Term) (positives : List Positive) (negatives : List Negative)
    : Type 0 where
  pub formed : IsFormed p
  pub transformer : IsTransformer p terms
  pub positives_stored : All (IsPositive p) positives
  pub negatives_stored : All (IsNegative p) negatives

-- where truth values satisfy the formula of precision, the transformer that they choose satisfies the examples, and
-- excludes the negative example that they choose, which the terms admit
abbrev pub CloserOnesAreChosen : Type 0
CloserOnesAreChosen = (folding : Bool) (p : Problem) (terms : List Term) (positives : List Positive)
    (negatives : List Negative) →
    IsComparison p terms positives negatives →
    (v : ℕ → Bool) → Satisfies v (query_circuit folding p (Precise terms positives negatives)).clauses →
    IsCloser p terms positives negatives (chosen_terms p v)
    (chosen_negative p (query_circuit folding p (Fit positives negatives)).vars v)

-- each such transformer and example are chosen by truth values that satisfy the formula of precision
abbrev pub CloserOnesAreReached : Type 0
CloserOnesAreReached = (folding : Bool) (p : Problem) (terms : List Term) (positives : List Positive)
    (negatives : List Negative) →
    IsComparison p terms positives negatives →
    (other : List Term) → IsTransformerOf p other → SuitsExamples p other positives negatives →
    (e : NegativeExample) → IsValidExample (question_of p) e → Excludes (question_of p) other e →
    ¬ Excludes (question_of p) terms e →
    (v : ℕ → Bool) × Satisfies v (query_circuit folding p (Precise terms positives negatives)).clauses
    × (chosen_terms p v ≡ other)
    × (negative_of p (chosen_negative p (query_circuit folding p (Fit positives negatives)).vars v) ≡ e)

-- where no truth values satisfy the formula of precision, no transformer that satisfies the examples is closer
abbrev pub UnsatisfiedPrecisionHasNoneCloser : Type 0
UnsatisfiedPrecisionHasNoneCloser = (folding : Bool) (p : Problem) (terms : List Term) (positives : List Positive)
    (negatives : List Negative) →
    IsComparison p terms positives negatives →
    ¬ IsSatisfiable (query_circuit folding p (Precise terms positives negatives)).clauses →
    NoneIsCloser (question_of p) terms (positives_of p positives) (negatives_of p negatives)
