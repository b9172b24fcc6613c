-- What is kept of negative examples beside positive ones, and why it may stay open.
use Rattle.std.specs.Prelude.{ℕ, List, []}
use Rattle.am_domain.specs.Examples.{NoneSatisfies}
use Rattle.am_problem.specs.Examples.{positives_of}
use Rattle.am_problem.specs.Problem.{Problem, question_of}
use Rattle.am_problem.specs.declared.examples.Negative.{Negative}
use Rattle.am_problem.specs.declared.examples.Positive.{Positive}
use Rattle.am_query.specs.Answers.{IsRefuted, IsSpentOn}
use Rattle.am_query.specs.Transformers.{IsTransformerOf, SuitsExamples}
use Rattle.am_query.specs.Turns.{AreAskedPlaces, AreKept, at_places}
use Rattle.am_query.specs.declared.query.Query.TheVariants.{Fit}
use Rattle.am_drop.specs.declared.keeping.Keeping.{Keeping}
use Rattle.am_drop.specs.declared.keeping.Keeping.TheVariants.{Kept, Nothing, Spent}

-- the kept places, and a transformer that satisfies the positive examples and those at these places; or no transformer
-- satisfies the positive examples; or the limit was reached by the fit of the examples at some places
abbrev pub IsKeeping : Problem → List Positive → List Negative → ℕ → Keeping → Type 0
IsKeeping p positives negatives limit (Kept places t) =
    AreKept p positives negatives places × IsTransformerOf p t × SuitsExamples p t positives
    (at_places negatives places)
IsKeeping p positives negatives limit (Nothing log) =
    NoneSatisfies (question_of p) (positives_of p positives) [] × IsRefuted p (Fit positives []) limit log
IsKeeping p positives negatives limit (Spent places log) =
    AreAskedPlaces p positives negatives places × IsSpentOn p (Fit positives (at_places negatives places)) limit log

-- the limit was reached
abbrev pub IsKeepingSpent : Keeping → Type 0
IsKeepingSpent (Kept places t) = ⊥
IsKeepingSpent (Nothing log) = ⊥
IsKeepingSpent (Spent places log) = Unit {0}
